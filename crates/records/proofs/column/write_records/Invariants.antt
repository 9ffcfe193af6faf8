use Rattle.records.proofs.Columns.{Progress}
use Rattle.records.proofs.Made.{Made}
use Rattle.records.proofs.column.write_records.Given as goal

-- The records so far are written, by just their writes, and what is left answers for the whole.
abbrev pub invariant-loop-index : goal.invariant-loop-index
invariant-loop-index g l =
    let m = g.M.Memory in
    Progress (m.meaning l.initial.memory) (m.meaning l.memory) l.prices l.index
    × m.coherent l.memory
    × Made m.step (m.meaning l.initial.memory) l.prices l.initial.memory l.memory l.index
