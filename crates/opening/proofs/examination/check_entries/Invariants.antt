use Rattle.std.proofs.Common.{◌≡◌, ◌*◌, min, length}
use Rattle.memory.specs.Reach.{OnlyRead}
use Rattle.page_table.specs.Table.{entry_address}
use Rattle.opening.specs.Board.{line_at}
use Rattle.opening.proofs.Examining.{Examined}
use Rattle.opening.proofs.examination.check_entries.Given as goal

-- All entries of the lines before are accepted.
abbrev pub invariant-table : goal.invariant-table
invariant-table g l =
    let m = g.M.Memory in
    let b = m.meaning l.fn.below in
    Examined l.table b (min (l.number * 32) l.table.entries) l.board l.answer
    × (length l.board ≡ length l.fn.board)
    × (m.meaning l.below ≡ b)
    × m.coherent l.below
    × OnlyRead m.step l.fn.below l.below

-- And so are those of this line before the one that is next.
abbrev pub invariant-loop-entry : goal.invariant-loop-entry
invariant-loop-entry g l =
    let m = g.M.Memory in
    let b = m.meaning l.fn.below in
    Examined l.table b l.entry l.board l.answer
    × (length l.board ≡ length l.fn.board)
    × (m.meaning l.below ≡ b)
    × m.coherent l.below
    × OnlyRead m.step l.fn.below l.below
    × (l.line ≡ line_at b (entry_address l.table (l.number * 32)))
