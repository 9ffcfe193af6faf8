-- What a call through an open window changes in the memory below, byte by byte and mark by mark. Assumes nothing.
-- Accepted l m c: the call c is accepted by the window over the memory m
-- Touches l c k: one of the bytes of c lies in the page k of the data
-- StandsThere l m p: a byte of the window stands at the address p of the memory m
-- MarksThere l m p: the marks of an entry do
-- Effect l m n c: all that the call c changes from m before to n after
use Rattle.std.specs.Prelude.{◌≡◌, ℕ, ◌+◌, ◌/◌, ◌<◌, ◌≤◌, true, ◌⊎◌, Decides, Some, Ok}
use Rattle.memory.specs.Meaning.{byte, Meaning}
use Rattle.memory.specs.Reach.{Call, first_cell, cells_of, Writes}
use Rattle.memory.specs.Calls.{read_answer}
use Rattle.mapping.specs.Rules.{Layout}
use Rattle.page_table.specs.declared.entry.Entry.{Entry}
use Rattle.page_table.specs.Table.{table_of, entry_address, entry_read}
use Rattle.page_table.specs.Walk.{walked, windowed}
use Rattle.page_table.specs.Class.{SameTable}

abbrev pub Accepted : Layout → Meaning → Call → Type 0
Accepted l m c = read_answer (windowed l m) (first_cell c) (cells_of c) ≡ Ok tt

pub record Touches (l : Layout) (c : Call) (k : ℕ) : Type 0 where
  pub cell : ℕ
  pub from : first_cell c ≤ cell
  pub below : cell < first_cell c + cells_of c
  pub place : ℕ
  pub at : l.place cell ≡ Some place
  pub page : place / 4096 ≡ k

-- a cell of the window stands in the byte at p below
pub record StandsThere (l : Layout) (m : Meaning) (p : ℕ) : Type 0 where
  pub cell : ℕ
  pub value : ℕ
  pub stands : walked l m cell ≡ Ok p
  pub is_byte : m.cell p ≡ byte value

-- the marks of an entry stand in the byte at p below: it is the first of the four
pub record MarksThere (l : Layout) (m : Meaning) (p : ℕ) : Type 0 where
  pub page : ℕ
  pub entry : Entry
  pub low : page < (table_of l).entries
  pub address : p ≡ entry_address (table_of l) page
  pub read : entry_read m (entry_address (table_of l) page) ≡ Ok entry

pub record Effect (l : Layout) (m n : Meaning) (c : Call) : Type 0 where
  pub size : n.size ≡ m.size
  -- no cell changes but a byte where a cell of the window stands, and the first byte of an entry that can be read
  pub cells : (p : ℕ) → (StandsThere l m p → ⊥) → (MarksThere l m p → ⊥) → n.cell p ≡ m.cell p
  -- of an entry only the marks
  pub table : SameTable (table_of l) m n
  pub walks : (s : ℕ) → walked l n s ≡ walked l m s
  pub referenced : (k : ℕ) (e d : Entry) → k < (table_of l).entries → entry_read m (entry_address (table_of l) k) ≡ Ok e → entry_read n (entry_address (table_of l) k) ≡ Ok d
      → Decides d.referenced ((e.referenced ≡ true) ⊎ (Accepted l m c × Touches l c k))
  pub modified : (k : ℕ) (e d : Entry) → k < (table_of l).entries → entry_read m (entry_address (table_of l) k) ≡ Ok e → entry_read n (entry_address (table_of l) k) ≡ Ok d
      → Decides d.modified ((e.modified ≡ true) ⊎ (Accepted l m c × Writes c × Touches l c k))
