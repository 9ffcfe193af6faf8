-- Entries where they are read: alone, and as part of a run. Assumes nothing.
use Rattle.std.proofs.Common.{◌≡◌, ℕ, zero, suc, ◌+◌, ◌≤◌, ◌∷◌, take, drop, Ok, refl, sym, ap, ◌∙◌, arith}
use Rattle.std.specs.Result.{result_map_both}
use Rattle.memory.specs.Fault.{passed_up}
use Rattle.memory.specs.Meaning.{Cell, Meaning}
use Rattle.memory.specs.Calls.{value, read_answer, bytes}
use Rattle.memory.proofs.Calls.{answer_inside, first_fault_none}
use Rattle.memory.proofs.Runs.{check_run_ok}
use Rattle.memory.proofs.Writes.{accepted_each}
use Rattle.page_table.specs.declared.table.Table.{Table}
use Rattle.page_table.specs.Entry.{entry_of}
use Rattle.page_table.specs.Table.{entry_address, entry_at, entry_read, entry_answer}

module _ (cell : ℕ → Cell) where
  bytes_front : (a n k : ℕ) → k ≤ n → take k (bytes cell a n) ≡ bytes cell a k
  unfolding bytes
  bytes_front a n zero fits = refl
  bytes_front a zero (suc k) fits = absurd (omega arith)
  bytes_front a (suc n) (suc k) fits = ap (λ xs. value (cell a) ∷ xs) (bytes_front (suc a) n k (omega arith))

  -- the bytes of a part of a run are part of the run's
  pub bytes_part : (a n o k : ℕ) → o + k ≤ n → take k (drop o (bytes cell a n)) ≡ bytes cell (a + o) k
  unfolding bytes
  bytes_part a n zero k fits = bytes_front a n k (omega arith) ∙ ap (λ b. bytes cell b k) (omega arith)
  bytes_part a zero (suc o) k fits = absurd (omega arith)
  bytes_part a (suc n) (suc o) k fits = bytes_part (suc a) n o k (omega arith) ∙ ap (λ b. bytes cell b k) (omega arith)

module _ (m : Meaning) (t : Table) (k : ℕ) where
  -- no entry crosses the end of a line, so inside the memory only faulted cells refuse it
  pub entry_inside : entry_address t k + 4 ≤ m.size → entry_answer m (entry_address t k) ≡ entry_read m (entry_address t k)
  unfolding entry_read
  entry_inside inside =
      ap (result_map_both (λ _. entry_at m (entry_address t k)) passed_up)
      (answer_inside m (entry_address t k) 4 (check_run_ok m.size (entry_address t k) 4 (omega arith) (omega arith) inside))

-- an entry that lies in an accepted run is read as the run was
pub entry_in_run : (m : Meaning) (a n o : ℕ) → o + 4 ≤ n → read_answer m a n ≡ Ok tt → entry_read m (a + o) ≡ Ok (entry_of (take 4 (drop o (bytes m.cell a n))))
unfolding entry_read
entry_in_run m a n o fits ok =
    ap (result_map_both (λ _. entry_at m (a + o)) passed_up)
    (first_fault_none m.cell (a + o) 4 (λ i low high. accepted_each m a n ok i (omega arith, omega arith)))
    ∙ ap (λ bs. Ok (entry_of bs)) (sym (bytes_part m.cell a n o 4 fits))
