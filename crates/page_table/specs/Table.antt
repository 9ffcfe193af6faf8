-- The page table in the memory below. Assumes nothing.
-- table_of l: where the table of the layout l starts, and how many entries it has, one for each page that the extent reaches
-- table_pages t: how many pages the table t takes
-- InTable t p: the page p is one of the table t, which is every page where a byte of it lies
-- whole_pages m: how many whole pages the memory m has
-- entry_address t k: the address of the entry k of t
-- entry_at m a: the entry that the four cells at a say
-- entry_read m a: the same, or the fault of the first faulted one of these cells, passed up
-- entry_answer m a: what a read of these cells answers, for every a
-- frame_in r: the frame of an entry that was read, if it is live
-- frame_of t m k: the frame of entry k, if that is live
-- Live t m k f: entry k is one of the table, and live, and f is its frame
-- GoodTable t m: the pages of the table are whole pages of the memory; so are live frames, which are none of the table, and no two
-- are equal
use Rattle.std.specs.Prelude.{◌≡◌, ℕ, ◌+◌, ◌*◌, ◌/◌, ◌<◌, ◌≤◌, cond, Some, None, Ok, Err, Option, Result}
use Rattle.std.specs.Result.{result_map_both}
use Rattle.memory.specs.declared.fault.Fault.{Fault}
use Rattle.memory.specs.Fault.{passed_up}
use Rattle.memory.specs.Meaning.{Meaning}
use Rattle.memory.specs.Calls.{first_fault, read_answer, bytes}
use Rattle.mapping.specs.Rules.{Layout}
use Rattle.page_table.specs.declared.entry.Entry.{Entry}
use Rattle.page_table.specs.declared.table.Table.{Table}
use Rattle.page_table.specs.Entry.{entry_of, is_live}

abbrev pub table_of : Layout → Table
table_of l = record { page = l.table_page; entries = (l.extent + 4095) / 4096 }

abbrev pub table_pages : Table → ℕ
table_pages t = (t.entries + 1023) / 1024

pub record InTable (t : Table) (p : ℕ) : Type 0 where
  pub from : t.page ≤ p
  pub below : p < t.page + table_pages t

abbrev pub whole_pages : Meaning → ℕ
whole_pages m = m.size / 4096

abbrev pub entry_address : Table → ℕ → ℕ
entry_address t k = t.page * 4096 + k * 4

abbrev pub entry_at : Meaning → ℕ → Entry
entry_at m a = entry_of (bytes m.cell a 4)

unfoldable pub entry_read : Meaning → ℕ → Result Entry Fault
entry_read m a = result_map_both (λ _. entry_at m a) passed_up (first_fault m.cell a 4)

abbrev pub entry_answer : Meaning → ℕ → Result Entry Fault
entry_answer m a = result_map_both (λ _. entry_at m a) passed_up (read_answer m a 4)

abbrev pub frame_in : Result Entry Fault → Option ℕ
frame_in (Ok e) = cond (is_live e) (Some e.frame) None
frame_in (Err f) = None

abbrev pub frame_of : Table → Meaning → ℕ → Option ℕ
frame_of t m k = frame_in (entry_read m (entry_address t k))

pub record Live (t : Table) (m : Meaning) (k f : ℕ) : Type 0 where
  pub low : k < t.entries
  pub frame : frame_of t m k ≡ Some f

pub record GoodTable (t : Table) (m : Meaning) : Type 0 where
  pub table : (p : ℕ) → InTable t p → p < whole_pages m
  pub below : (k f : ℕ) → Live t m k f → f < whole_pages m
  pub outside : (k f : ℕ) → Live t m k f → InTable t f → ⊥
  pub apart : (j k f : ℕ) → Live t m j f → Live t m k f → j ≡ k
