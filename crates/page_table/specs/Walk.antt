-- What a cell of a window is: the walk from a window address through the mapping and the page table. Assumes nothing.
-- through s v r: where the pseudo-virtual address v of the window address s stands, by the entry r of its page
-- walked_from t m s place: the address below where cell s stands, by its place and the table t, or the fault that is met on the way
-- walked l m s: the same by the layout l
-- cell_behind m r: the cell of a window that stands where the walk r led, or its fault
-- viewed l m s: the cell s of an open window over the memory m
-- windowed l m: the meaning of that window
-- shut: the meaning of a shut window
-- shown is_open l m: the meaning of a window that is open or not
use Rattle.std.specs.Prelude.{ℕ, ◌+◌, ◌*◌, ◌/◌, ◌%◌, Bool, cond, Some, None, Ok, Err, Option, Result}
use Rattle.std.specs.Result.{result_map_both}
use Rattle.memory.specs.declared.fault.Cause.TheVariants.{Blank}
use Rattle.memory.specs.declared.fault.Fault.{Fault}
use Rattle.memory.specs.Fault.{here}
use Rattle.memory.specs.Meaning.{Cell, fault, Meaning}
use Rattle.memory.specs.Up.{cell_up}
use Rattle.mapping.specs.Rules.{Layout}
use Rattle.page_table.specs.declared.entry.Entry.{Entry}
use Rattle.page_table.specs.declared.table.Table.{Table}
use Rattle.page_table.specs.Entry.{live_frame}
use Rattle.page_table.specs.Table.{table_of, entry_address, entry_read}

-- a page that is not there, or is out, is a fault of the window itself
abbrev pub through : ℕ → ℕ → Result Entry Fault → Result ℕ Fault
through s v (Ok e) = result_map_both (λ f. f * 4096 + v % 4096) (λ c. here c s) (live_frame e)
through s v (Err f) = Err f

abbrev pub walked_from : Table → Meaning → ℕ → Option ℕ → Result ℕ Fault
walked_from t m s None = Err (here Blank s)
walked_from t m s (Some v) = through s v (entry_read m (entry_address t (v / 4096)))

abbrev pub walked : Layout → Meaning → ℕ → Result ℕ Fault
walked l m s = walked_from (table_of l) m s (l.place s)

abbrev pub cell_behind : Meaning → Result ℕ Fault → Cell
cell_behind m (Ok p) = cell_up (m.cell p)
cell_behind m (Err f) = fault f

unfoldable pub viewed : Layout → Meaning → ℕ → Cell
viewed l m s = cell_behind m (walked l m s)

abbrev pub windowed : Layout → Meaning → Meaning
windowed l m = record { size = l.image_size; cell = viewed l m }

abbrev pub shut : Meaning
shut = record { size = 0; cell = λ s. fault (here Blank s) }

abbrev pub shown : Bool → Layout → Meaning → Meaning
shown is_open l m = cond is_open (windowed l m) shut
