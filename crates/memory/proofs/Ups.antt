-- The calls of a layer that has the cells below, passed up. Assumes nothing.
use Rattle.std.proofs.Common.{◌≡◌, ℕ, zero, suc, ◌+◌, ◌-◌, Bool, true, false, cond, List, [], ◌∷◌, length, get_or, is_ok, Ok, Err, Result, sym, refl, ap, ◌∙◌}
use Rattle.std.specs.Result.{result_and}
use Rattle.memory.specs.declared.fault.Fault.{Fault}
use Rattle.memory.specs.Fault.{passed_up, from_below}
use Rattle.memory.specs.Bytes.{within}
use Rattle.memory.specs.Run.{check_run}
use Rattle.memory.specs.Meaning.{Cell, byte, fault, Meaning}
use Rattle.memory.specs.Calls.{cell_answer, first_fault, read_answer, write_answer, value, bytes, delivered, stored, written}
use Rattle.memory.specs.Up.{cell_up, cells_up}
use Rattle.memory.proofs.Calls.{same_meaning, answer_inside, answer_outside, writes_as_reads}

answer_up : (c : Cell) → cell_answer (cell_up c) ≡ from_below (cell_answer c)
answer_up (byte b) = refl
answer_up (fault f) = refl

value_up : (c : Cell) → value (cell_up c) ≡ value c
value_up (byte b) = refl
value_up (fault f) = refl

and_up : (r s : Result (Unit {0}) Fault) → result_and (from_below r) (from_below s) ≡ from_below (result_and r s)
and_up (Ok u) s = refl
and_up (Err f) s = refl

pub first_fault_up : (cell : ℕ → Cell) (a n : ℕ) → first_fault (λ i. cell_up (cell i)) a n ≡ from_below (first_fault cell a n)
unfolding first_fault
first_fault_up cell a zero = refl
first_fault_up cell a (suc n) =
    ap (λ r. result_and r (first_fault (λ i. cell_up (cell i)) (suc a) n)) (answer_up (cell a))
    ∙ ap (result_and (from_below (cell_answer (cell a)))) (first_fault_up cell (suc a) n)
    ∙ and_up (cell_answer (cell a)) (first_fault cell (suc a) n)

pub bytes_up : (cell : ℕ → Cell) (a n : ℕ) → bytes (λ i. cell_up (cell i)) a n ≡ bytes cell a n
unfolding bytes
bytes_up cell a zero = refl
bytes_up cell a (suc n) = ap (λ v. v ∷ bytes (λ i. cell_up (cell i)) (suc a) n) (value_up (cell a)) ∙ ap (λ xs. value (cell a) ∷ xs) (bytes_up cell (suc a) n)

-- past the test of the run, the answer is that of the memory below, one deeper
pub read_inside_up : (m : Meaning) (a n : ℕ) → check_run m.size a n ≡ Ok tt → read_answer (cells_up m) a n ≡ from_below (read_answer m a n)
read_inside_up m a n taken = answer_inside (cells_up m) a n taken ∙ first_fault_up m.cell a n ∙ sym (ap from_below (answer_inside m a n taken))

-- a layer accepts what the memory below accepts
pub accepted_up : (m : Meaning) (a n : ℕ) → is_ok (read_answer (cells_up m) a n) ≡ is_ok (read_answer m a n)
unfolding read_answer
accepted_up m a n = by (check_run m.size a n) (first_fault m.cell a n) (first_fault (λ i. cell_up (m.cell i)) a n) (first_fault_up m.cell a n) where
  by : (b r s : Result (Unit {0}) Fault) → s ≡ from_below r → is_ok (result_and b s) ≡ is_ok (result_and b r)
  by (Ok u) (Ok v) s e = ap is_ok e
  by (Ok u) (Err f) s e = ap is_ok e
  by (Err f) r s e = refl

pub write_accepted_up : (m : Meaning) (a n : ℕ) → is_ok (write_answer (cells_up m) a n) ≡ is_ok (write_answer m a n)
write_accepted_up m a n = ap is_ok (writes_as_reads (cells_up m) a n) ∙ accepted_up m a n ∙ sym (ap is_ok (writes_as_reads m a n))

pub delivered_up : (m : Meaning) (a : ℕ) (b : List ℕ) → delivered (cells_up m) a b ≡ delivered m a b
delivered_up m a b =
    ap (λ t. cond t (bytes (cells_up m).cell a (length b)) b) (accepted_up m a (length b))
    ∙ ap (λ xs. cond (is_ok (read_answer m a (length b))) xs b) (bytes_up m.cell a (length b))

cond_up : (t : Bool) (c d : Cell) → cell_up (cond t c d) ≡ cond t (cell_up c) (cell_up d)
cond_up true c d = refl
cond_up false c d = refl

pub stored_up : (m : Meaning) (a : ℕ) (bs : List ℕ) → cells_up (stored m a bs) ≡ stored (cells_up m) a bs
unfolding stored
stored_up m a bs = same_meaning _ _ refl (λ i. cond_up (within a (length bs) i) (byte (get_or bs (i - a) 0)) (m.cell i))

pub written_up : (m : Meaning) (a : ℕ) (bs : List ℕ) → cells_up (written m a bs) ≡ written (cells_up m) a bs
written_up m a bs = by (is_ok (write_answer m a (length bs))) ∙ ap (λ t. cond t (stored (cells_up m) a bs) (cells_up m)) (sym (write_accepted_up m a (length bs))) where
  by : (t : Bool) → cells_up (cond t (stored m a bs) m) ≡ cond t (stored (cells_up m) a bs) (cells_up m)
  by true = stored_up m a bs
  by false = refl
