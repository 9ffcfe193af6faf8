-- What a lookup answers and leaves. Assumes nothing.
use Rattle.std.proofs.Common.{◌≡◌, ℕ, ◌+◌, ◌<◌, ◌≤◌, true, false, Some, None, Ok, Err, Result, sym, ap, ◌∙◌, subst, ⊎_elim}
use Rattle.std.proofs.lemmas.Bool.{cases_Bool, cond-true, cond-false}
use Rattle.memory.specs.declared.fault.Fault.{Fault}
use Rattle.memory.specs.Meaning.{Meaning}
use Rattle.page_table.specs.declared.entry.Entry.{Entry}
use Rattle.page_table.specs.declared.table.Table.{Table}
use Rattle.page_table.specs.declared.tlb.Tlb.{Tlb}
use Rattle.page_table.specs.Table.{entry_address, entry_read, entry_answer}
use Rattle.page_table.specs.Entry.{is_live}
use Rattle.page_table.specs.Tlb.{held_entry, kept, counted}
use Rattle.page_table.specs.Ready.{Holds}
use Rattle.page_table.proofs.Tlbs.{holds_counted, holds_kept}
use Rattle.page_table.proofs.Entries.{entry_inside}
use Rattle.walk.specs.Lookup.{taken_in, looked_by, looked}

module _ (t : Table) (m : Meaning) (h : Tlb) (k : ℕ) where
  pub read_is : (r : Result Entry Fault) → entry_address t k + 4 ≤ m.size → r ≡ entry_answer m (entry_address t k) → r ≡ entry_read m (entry_address t k)
  read_is r inside is = is ∙ entry_inside m t k inside

  pub looked_held : (e : Entry) → Some e ≡ held_entry h k → counted h false ≡ looked t m h k
  unfolding looked
  looked_held e is = ap (looked_by h k (entry_read m (entry_address t k))) is

  pub looked_read : (r : Result Entry Fault) → None ≡ held_entry h k → r ≡ entry_read m (entry_address t k) → taken_in h k r ≡ looked t m h k
  unfolding looked
  looked_read r none is = ap (taken_in h k) is ∙ ap (looked_by h k (entry_read m (entry_address t k))) none

  -- what is held after a lookup is in the table
  pub holds_taken_in : (r : Result Entry Fault) → Holds t m h → k < t.entries → r ≡ entry_read m (entry_address t k) → Holds t m (taken_in h k r)
  holds_taken_in (Err f) holds low is = holds_counted t m h holds false
  holds_taken_in (Ok e) holds low is =
      ⊎_elim
      (λ live. subst (Holds t m) (sym (cond-true (is_live e) (kept (counted h true) k e) (counted h false) live)) (holds_kept t m (counted h true) (holds_counted t m h holds true) k e low (sym is) live))
      (λ dead. subst (Holds t m) (sym (cond-false (is_live e) (kept (counted h true) k e) (counted h false) dead)) (holds_counted t m h holds false))
      (cases_Bool (is_live e))
