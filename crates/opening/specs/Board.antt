-- The board during an examination, and a line of the table. Assumes nothing.
-- The board has a byte for each whole page: 1 where a live entry that was examined has that frame, and else 0.
-- check_on_board t p board f: acceptance of an entry by its frame f, if it is live, as the board shows what came before
-- noted board f: the board after that entry was accepted
-- Seen t m k board: the board shows the frames of the live entries before k
-- line_at m a: the bytes of the line at a, if it is read whole
use Rattle.std.specs.Prelude.{◌≡◌, ℕ, ◌<◌, ◌≤◌, cond, not, ◌==◌, Some, None, Ok, Option, Result, is_ok, List, length, slice_index, slice_set}
use Rattle.memory.specs.Meaning.{Meaning}
use Rattle.memory.specs.Calls.{read_answer, bytes}
use Rattle.page_table.specs.declared.table.Table.{Table}
use Rattle.page_table.specs.Table.{whole_pages}
use Rattle.opening.specs.declared.reason.Reason.{Reason}
use Rattle.opening.specs.Opening.{taken, check_frame}

abbrev pub check_on_board : Table → ℕ → List ℕ → Option ℕ → Result (Unit {0}) Reason
check_on_board t p board None = Ok tt
check_on_board t p board (Some f) = check_frame t p f (not (slice_index board f == 0))

abbrev pub noted : List ℕ → Option ℕ → List ℕ
noted board None = board
noted board (Some f) = slice_set board f 1

pub record Seen (t : Table) (m : Meaning) (k : ℕ) (board : List ℕ) : Type 0 where
  pub long : whole_pages m ≤ length board
  pub frames : (f : ℕ) → f < whole_pages m → slice_index board f ≡ cond (taken t m k f) 1 0

abbrev pub line_at : Meaning → ℕ → Option (List ℕ)
line_at m a = cond (is_ok (read_answer m a 128)) (Some (bytes m.cell a 128)) None
