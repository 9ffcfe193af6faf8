-- No call of a checked memory touches the bytes after the last whole line. Assumes nothing.
use Rattle.std.proofs.Common.{◌≡◌, ℕ, ◌+◌, ◌*◌, ◌/◌, ◌%◌, ◌≤◌, cond, List, length, take, is_ok, Ok, Err, Result, sym, refl, ◌∙◌, subst, inr, arith}
use Rattle.memory.specs.declared.fault.Fault.{Fault}
use Rattle.memory.specs.Bytes.{overlaid}
use Rattle.memory.specs.Reach.{Call, reading, writing, bytes_after}
use Rattle.memory.specs.Calls.{write_answer}
use Rattle.memory.specs.Meaning.{capacity}
use Rattle.memory.proofs.Runs.{Taken}
use Rattle.memory.proofs.Writes.{accepted_write_taken}
use Rattle.memory.proofs.Overlays.{overlaid_outside, length_overlaid}
use Rattle.checked.specs.Line.{sealed, line_start, checked_line}
use Rattle.checked.specs.Checked.{checked_meaning, renewed, updated}
use Rattle.checked.proofs.Lines.{length_sealed, length_renewed, length_cells}
use Rattle.checked.proofs.Guards.{room, fits}
use Rattle.checked_records.specs.Rest.{RestKept}

pub rest_none : (xs : List ℕ) → RestKept xs xs
rest_none xs = record { long = refl; same = λ i _. refl }

renewed_rest : (xs : List ℕ) (a : ℕ) (bs : List ℕ) → write_answer (checked_meaning xs) a (length bs) ≡ Ok tt → RestKept xs (renewed xs a bs)
renewed_rest xs a bs ok =
    let whole : line_start a + 129 ≤ length xs = room xs a bs ok in
    let run : Taken (checked_meaning xs).size a (length bs) = accepted_write_taken (checked_meaning xs) a (length bs) ok in
    let last : line_start a + 129 ≤ (checked_meaning xs).size / 128 * 129 = omega (arith, run) in
    let inside : a % 128 + length bs ≤ 128 = fits xs a bs ok in
    let cells : List ℕ = take 128 (checked_line xs a) in
    let some : length cells ≡ 128 = length_cells xs a bs whole inside in
    let new : List ℕ = overlaid cells (a % 128) bs in
    let long : length (sealed new) ≡ 129 = length_sealed new ∙ omega (arith, length_overlaid cells bs (a % 128) (omega arith), some) in
    record {
      long = length_renewed xs a bs whole inside;
      same = λ i far. overlaid_outside xs (sealed new) (line_start a) (omega (arith, long, whole)) i 0 (inr (omega (arith, long, last, far)));
    }

updated_rest : (xs : List ℕ) (a : ℕ) (bs : List ℕ) (r : Result (Unit {0}) Fault) → write_answer (checked_meaning xs) a (length bs) ≡ r → RestKept xs (cond (is_ok r) (renewed xs a bs) xs)
updated_rest xs a bs (Ok u) e = renewed_rest xs a bs e
updated_rest xs a bs (Err f) e = rest_none xs

rest_more : (xs ys zs : List ℕ) → RestKept xs ys → RestKept ys zs → RestKept xs zs
rest_more xs ys zs p q = record {
  long = q.long ∙ p.long;
  same = λ i far. q.same i (subst (λ n. capacity (n / 129) / 128 * 129 ≤ i) (sym p.long) far) ∙ p.same i far;
}

pub rest_step : (xs ys : List ℕ) (c : Call) → RestKept (bytes_after updated xs c) ys → RestKept xs ys
rest_step xs ys (reading a b) rest = rest
rest_step xs ys (writing a bs) rest = rest_more xs (updated xs a bs) ys (updated_rest xs a bs (write_answer (checked_meaning xs) a (length bs)) refl) rest
