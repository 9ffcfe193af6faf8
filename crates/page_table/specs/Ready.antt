-- What an open window keeps from call to call. Assumes nothing.
-- Holds t m h: what the TLB h holds for a page is its entry in the table t in the memory m, which is live
-- Ready l m h: all that holds of the layout l, of the memory m below, and of the TLB h
use Rattle.std.specs.Prelude.{◌≡◌, ℕ, ◌<◌, true, Some, Ok}
use Rattle.memory.specs.Meaning.{Meaning, WellFormed}
use Rattle.mapping.specs.Rules.{Layout}
use Rattle.mapping.specs.Laws.{Lawful}
use Rattle.page_table.specs.declared.entry.Entry.{Entry}
use Rattle.page_table.specs.declared.table.Table.{Table}
use Rattle.page_table.specs.declared.tlb.Tlb.{Tlb}
use Rattle.page_table.specs.Entry.{is_live}
use Rattle.page_table.specs.Table.{table_of, entry_address, entry_read, GoodTable}
use Rattle.page_table.specs.Tlb.{held_entry, Steady}

pub record Holds (t : Table) (m : Meaning) (h : Tlb) : Type 0 where
  pub entry : (k : ℕ) (e : Entry) → held_entry h k ≡ Some e → entry_read m (entry_address t k) ≡ Ok e
  pub live : (k : ℕ) (e : Entry) → held_entry h k ≡ Some e → is_live e ≡ true
  pub low : (k : ℕ) (e : Entry) → held_entry h k ≡ Some e → k < t.entries

pub record Ready (l : Layout) (m : Meaning) (h : Tlb) : Type 0 where
  pub lawful : Lawful l
  pub formed : WellFormed m
  pub table : GoodTable (table_of l) m
  pub holds : Holds (table_of l) m h
  pub steady : Steady h
