-- What a list of calls through an open window changes in the memory below. Assumes nothing.
-- AccessedBy Sort l m cs k: one of the calls cs is of that sort, is accepted by the window over the memory m, and touches the page k
-- AnySort c: reads and writes set the referenced bit; Writes are the sort of the modified bit
-- ListEffect l m n cs: all that the calls cs change from m before to n after
use Rattle.std.specs.Prelude.{◌≡◌, ℕ, ◌<◌, true, ◌⊎◌, Decides, List, slice_get, Some, Ok}
use Rattle.memory.specs.Meaning.{Meaning}
use Rattle.memory.specs.Reach.{Call, Writes}
use Rattle.mapping.specs.Rules.{Layout}
use Rattle.page_table.specs.declared.entry.Entry.{Entry}
use Rattle.page_table.specs.Table.{table_of, entry_address, entry_read}
use Rattle.page_table.specs.Walk.{walked}
use Rattle.page_table.specs.Class.{SameTable}
use Rattle.transfer.specs.Effect.{Accepted, Touches, StandsThere, MarksThere}

pub record AccessedBy (Sort : Call → Type 0) (l : Layout) (m : Meaning) (cs : List Call) (k : ℕ) : Type 0 where
  pub index : ℕ
  pub call : Call
  pub at : slice_get cs index ≡ Some call
  pub sort : Sort call
  pub accepted : Accepted l m call
  pub touches : Touches l call k

abbrev pub AnySort : Call → Type 0
AnySort c = Unit {0}

pub record ListEffect (l : Layout) (m n : Meaning) (cs : List Call) : Type 0 where
  pub size : n.size ≡ m.size
  -- no cell changes but a byte where a cell of the window stands, and the first byte of an entry that can be read
  pub cells : (p : ℕ) → (StandsThere l m p → ⊥) → (MarksThere l m p → ⊥) → n.cell p ≡ m.cell p
  -- of an entry only the marks
  pub table : SameTable (table_of l) m n
  pub walks : (s : ℕ) → walked l n s ≡ walked l m s
  -- each mark is set just if it was, or an accepted call of its sort touched the page
  pub referenced : (k : ℕ) (e d : Entry) → k < (table_of l).entries → entry_read m (entry_address (table_of l) k) ≡ Ok e → entry_read n (entry_address (table_of l) k) ≡ Ok d
      → Decides d.referenced ((e.referenced ≡ true) ⊎ AccessedBy AnySort l m cs k)
  pub modified : (k : ℕ) (e d : Entry) → k < (table_of l).entries → entry_read m (entry_address (table_of l) k) ≡ Ok e → entry_read n (entry_address (table_of l) k) ≡ Ok d
      → Decides d.modified ((e.modified ≡ true) ⊎ AccessedBy Writes l m cs k)
