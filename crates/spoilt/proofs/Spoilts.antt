-- The calls of a spoilt memory by its bytes. Assumes nothing.
use Rattle.std.proofs.Common.{◌≡◌, ℕ, zero, suc, ◌+◌, ◌/◌, ◌^◌, ◌<◌, ◌≤◌, cond, eqb, List, length, get_or, take, drop, Ok, Err, sym, refl, ap, ◌∙◌, ⊎_elim, arith}
use Rattle.std.proofs.lemmas.List.{length-take, length-drop, get_or-take, get_or-drop}
use Rattle.std.proofs.lemmas.Bool.{cases_eq, cond-true, cond-false, eq-eqb, ne_eqb}
use Rattle.memory.specs.declared.fault.Cause.TheVariants.{FailedCheck}
use Rattle.memory.specs.declared.fault.Fault.{Fault}
use Rattle.memory.specs.Fault.{here}
use Rattle.memory.specs.Bytes.{overlaid}
use Rattle.memory.specs.Run.{check_run}
use Rattle.memory.specs.Meaning.{byte, fault, capacity}
use Rattle.memory.specs.Calls.{cell_answer, value, first_fault, read_answer, write_answer, bytes, written, StandsAt}
use Rattle.memory.proofs.Overlays.{Inside, cases_run, length_overlaid, overlaid_inside, overlaid_outside}
use Rattle.memory.proofs.Runs.{Taken, run_taken}
use Rattle.memory.proofs.Calls.{answer_outside, answer_inside, first_fault_none, is_within, not_within, writes_as_reads, bytes_are, written_accepted, is_stored}
use Rattle.memory.proofs.Writes.{accepted_taken, accepted_each}
use Rattle.spoilt.specs.Spoilt.{spoilt_cell, cells_answer, spoilt_meaning, updated}

module _ (xs : List ℕ) where
  sound_cell : (i : ℕ) → (i ≡ 4230 → ⊥) → spoilt_cell xs i ≡ byte (get_or xs i 0)
  sound_cell i other = cond-false _ _ _ (ne_eqb i 4230 other)

  the_fault : (i : ℕ) → i ≡ 4230 → spoilt_cell xs i ≡ fault (here FailedCheck 4230)
  the_fault i same = cond-true _ _ _ (eq-eqb i 4230 same)

  -- the spoilt cell is the first fault of a run that has it, since it is the only one
  first_spoilt : (a n : ℕ) → Inside a n 4230 → first_fault (spoilt_cell xs) a n ≡ Err (here FailedCheck 4230)
  unfolding first_fault
  first_spoilt a zero run = absurd (omega arith)
  first_spoilt a (suc n) run =
      ⊎_elim
      (λ same. rw (the_fault a same) refl)
      (λ other. rw (sound_cell a other) (first_spoilt (suc a) n (omega arith, omega arith)))
      (cases_eq a 4230)

  module _ (a n : ℕ) where
    pub refused : (f : Fault) → check_run (spoilt_meaning xs).size a n ≡ Err f → read_answer (spoilt_meaning xs) a n ≡ Err f
    refused f e = answer_outside (spoilt_meaning xs) a n f e

    by_cells : cells_answer a n ≡ first_fault (spoilt_cell xs) a n
    by_cells =
        ⊎_elim
        (λ run. cond-true _ _ _ (is_within a n 4230 run) ∙ sym (first_spoilt a n run))
        (λ out.
        cond-false _ _ _ (not_within a n 4230 out)
        ∙ sym (first_fault_none (spoilt_cell xs) a n (λ i low high. ap cell_answer (sound_cell i (λ e. ⊎_elim (λ h. omega arith) (λ h. omega arith) out)))))
        (cases_run a n 4230)

    pub answered : check_run (spoilt_meaning xs).size a n ≡ Ok tt → cells_answer a n ≡ read_answer (spoilt_meaning xs) a n
    answered ok = by_cells ∙ sym (answer_inside (spoilt_meaning xs) a n ok)

    pub in_range : check_run (spoilt_meaning xs).size a n ≡ Ok tt → a + n < 2 ^ 64
    in_range ok = let t : Taken (spoilt_meaning xs).size a n = run_taken (spoilt_meaning xs).size a n ok in omega arith

-- a run that is accepted
module _ (xs : List ℕ) (a n : ℕ) (ok : read_answer (spoilt_meaning xs) a n ≡ Ok tt) where
  pub inside : a + n ≤ length xs
  inside = let t : Taken (capacity (length xs / 128)) a n = accepted_taken (spoilt_meaning xs) a n ok in omega arith

  -- its cells are all bytes, so the spoilt one is none of them
  differs : (i : ℕ) → Inside a n i → i ≡ 4230 → ⊥
  differs i run same =
      let refused : Ok tt ≡ Err (here FailedCheck 4230) = sym (accepted_each (spoilt_meaning xs) a n ok i run) ∙ ap cell_answer (the_fault xs i same) in
      let z : ◌≡◌ {A = ℕ} 0 1 = cc in
      omega arith

  -- its cells stand at its address
  pub stands : StandsAt (spoilt_meaning xs) xs a n a
  stands =
      let inside_xs : a + n ≤ length xs = inside in
      let long : length (take n (drop a xs)) ≡ n = simp (length-take, length-drop) (omega arith) in
      record {
        inside = inside_xs;
        bytes = sym (ap (bytes (spoilt_cell xs) a) (sym long)
            ∙ bytes_are (spoilt_cell xs) a (take n (drop a xs))
            (λ k low.
            ap value (sound_cell xs (a + k) (differs (a + k) (omega arith, omega arith)))
            ∙ sym (get_or-take n (drop a xs) k 0 (omega arith) ∙ get_or-drop a xs k 0)));
      }

-- a write that is accepted
module _ (xs : List ℕ) (a : ℕ) (bs : List ℕ) (ok : write_answer (spoilt_meaning xs) a (length bs) ≡ Ok tt) where
  as_read : read_answer (spoilt_meaning xs) a (length bs) ≡ Ok tt
  as_read = sym (writes_as_reads (spoilt_meaning xs) a (length bs)) ∙ ok

  pub write_inside : a + length bs ≤ length xs
  write_inside = inside xs a (length bs) as_read

  pub write_bytes : overlaid xs a bs ≡ updated xs a bs
  write_bytes = rw ok

  pub write_meaning : spoilt_meaning (overlaid xs a bs) ≡ written (spoilt_meaning xs) a bs
  write_meaning =
      is_stored (spoilt_meaning xs) (spoilt_meaning (overlaid xs a bs)) a bs
      (ap (λ n. capacity (n / 128)) (length_overlaid xs bs a write_inside))
      (λ i run.
      sound_cell (overlaid xs a bs) i (differs xs a (length bs) as_read i run)
      ∙ ap byte (overlaid_inside xs bs a write_inside i 0 run))
      (λ i run. ap (λ b. cond (eqb i 4230) (fault (here FailedCheck 4230)) (byte b)) (overlaid_outside xs bs a write_inside i 0 run))
      ∙ sym (written_accepted (spoilt_meaning xs) a bs ok)
