-- An entry that is read alone, and one that its line has. Assumes nothing.
use Rattle.std.proofs.Common.{◌≡◌, ℕ, ◌+◌, ◌*◌, ◌/◌, ◌%◌, ◌≤◌, cond, List, take, drop, is_ok, Some, None, Ok, Err, Result, sym, refl, ap, ◌∙◌, arith}
use Rattle.memory.specs.declared.fault.Fault.{Fault}
use Rattle.memory.specs.Meaning.{Meaning}
use Rattle.memory.specs.Calls.{read_answer, bytes}
use Rattle.page_table.specs.declared.table.Table.{Table}
use Rattle.page_table.specs.Entry.{entry_of}
use Rattle.page_table.specs.Table.{entry_address, entry_read, entry_answer, frame_in, frame_of}
use Rattle.page_table.proofs.Entries.{entry_inside, entry_in_run}
use Rattle.opening.specs.Board.{line_at}

-- a line that is there was accepted
accepted_line : (bs xs : List ℕ) (r : Result (Unit {0}) Fault) → Some xs ≡ cond (is_ok r) (Some bs) None → (r ≡ Ok tt) × (xs ≡ bs)
accepted_line bs xs (Ok u) e = (refl, cc)
accepted_line bs xs (Err f) e = absurd cc

module _ (t : Table) (m : Meaning) (k : ℕ) where
  pub lone_frame : entry_address t k + 4 ≤ m.size → frame_in (entry_answer m (entry_address t k)) ≡ frame_of t m k
  lone_frame inside = ap frame_in (entry_inside m t k inside)

  pub lined_frame : (xs : List ℕ) → Some xs ≡ line_at m (entry_address t (k / 32 * 32)) → frame_in (Ok (entry_of (take 4 (drop (k % 32 * 4) xs)))) ≡ frame_of t m k
  lined_frame xs e =
      let a : ℕ = entry_address t (k / 32 * 32) in
      let whole = accepted_line (bytes m.cell a 128) xs (read_answer m a 128) e in
      let at : a + k % 32 * 4 ≡ entry_address t k = omega arith in
      ap (λ bs. frame_in (Ok (entry_of (take 4 (drop (k % 32 * 4) bs))))) whole.1
      ∙ ap frame_in (sym (entry_in_run m a 128 (k % 32 * 4) (omega arith) whole.0))
      ∙ ap (λ b. frame_in (entry_read m b)) at
