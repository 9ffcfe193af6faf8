-- Which openings are refused, and why. Assumes nothing.
-- in_table t p: whether the page p is one of the table t
-- has_frame f o: whether the frame o of an entry, if it is live, is f
-- taken t m k f: whether a live entry before entry k has the frame f
-- check_frame t p f before: acceptance of the live frame f, or why it is refused, by the table t and p whole pages, where it is said
-- whether an earlier live entry has it
-- check_live t m k f: acceptance of entry k by its frame f, if it is live, or why it is refused; one that is not live is accepted
-- check_entry t m k: the same by what the memory m holds
-- refused_by k r: the answer r, with the number of the entry that decided it
-- check_entries t m k n: acceptance of the n entries from k on, or the refusal of the first one that is not accepted
-- table_outside t m: whether from the table's first page on there are fewer whole pages than it takes
-- check_sizes t m b: acceptance of a board of b bytes and of the place of the table, or why they are refused
-- check_opening t m b: acceptance of the opening of a window by the table t over the memory m, or the refusal
-- Openable t m b: the board is long enough, and the table is good
use Rattle.std.specs.Prelude.{ℕ, zero, suc, ◌+◌, ◌-◌, ◌≤◌, Bool, false, cond, ◌&&◌, ◌||◌, ◌==◌, nat_le, nat_lt, Some, None, Ok, Err, Option, Result}
use Rattle.std.specs.Result.{result_map_both, result_and}
use Rattle.memory.specs.Meaning.{Meaning}
use Rattle.page_table.specs.declared.table.Table.{Table}
use Rattle.page_table.specs.Table.{table_pages, whole_pages, frame_of, GoodTable}
use Rattle.opening.specs.declared.reason.Reason.{Reason}
use Rattle.opening.specs.declared.reason.Reason.TheVariants.{ShortBoard, TableOutside, FrameOutside, FrameInTable, FrameTaken}
use Rattle.opening.specs.declared.reason.OpeningRefusal.{OpeningRefusal}

abbrev pub in_table : Table → ℕ → Bool
in_table t p = nat_le t.page p && nat_lt p (t.page + table_pages t)

abbrev pub has_frame : ℕ → Option ℕ → Bool
has_frame f None = false
has_frame f (Some g) = g == f

unfoldable pub taken : Table → Meaning → ℕ → ℕ → Bool
taken t m zero f = false
taken t m (suc k) f = has_frame f (frame_of t m k) || taken t m k f

abbrev pub check_frame : Table → ℕ → ℕ → Bool → Result (Unit {0}) Reason
check_frame t p f before =
    cond (nat_le p f) (Err FrameOutside)
    (cond (in_table t f) (Err FrameInTable)
    (cond before (Err FrameTaken) (Ok tt)))

abbrev pub check_live : Table → Meaning → ℕ → Option ℕ → Result (Unit {0}) Reason
check_live t m k None = Ok tt
check_live t m k (Some f) = check_frame t (whole_pages m) f (taken t m k f)

unfoldable pub check_entry : Table → Meaning → ℕ → Result (Unit {0}) Reason
check_entry t m k = check_live t m k (frame_of t m k)

abbrev pub refused_by : ℕ → Result (Unit {0}) Reason → Result (Unit {0}) OpeningRefusal
refused_by k r = result_map_both (λ u. u) (λ reason. record { reason = reason; entry = k }) r

unfoldable pub check_entries : Table → Meaning → ℕ → ℕ → Result (Unit {0}) OpeningRefusal
check_entries t m k zero = Ok tt
check_entries t m k (suc n) = result_and (refused_by k (check_entry t m k)) (check_entries t m (suc k) n)

abbrev pub table_outside : Table → ℕ → Bool
table_outside t p = nat_lt (p - t.page) (table_pages t)

abbrev pub check_sizes : Table → ℕ → ℕ → Result (Unit {0}) Reason
check_sizes t p b =
    cond (nat_lt b p) (Err ShortBoard)
    (cond (table_outside t p) (Err TableOutside) (Ok tt))

unfoldable pub check_opening : Table → Meaning → ℕ → Result (Unit {0}) OpeningRefusal
check_opening t m b = result_and (refused_by 0 (check_sizes t (whole_pages m) b)) (check_entries t m 0 t.entries)

pub record Openable (t : Table) (m : Meaning) (b : ℕ) : Type 0 where
  pub board : whole_pages m ≤ b
  pub table : GoodTable t m
