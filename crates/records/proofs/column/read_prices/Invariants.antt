use Rattle.std.proofs.Common.{◌≡◌, vec_items}
use Rattle.memory.specs.Reach.{OnlyRead}
use Rattle.records.specs.Column.{prices_read}
use Rattle.records.proofs.column.read_prices.Given as goal

-- The readings so far, and a memory that means what it meant.
abbrev pub invariant-loop-index : goal.invariant-loop-index
invariant-loop-index g l =
    let m = g.M.Memory in
    (vec_items l.readings ≡ prices_read (m.meaning l.initial.memory) l.index)
    × (m.meaning l.memory ≡ m.meaning l.initial.memory)
    × m.coherent l.memory
    × OnlyRead m.step l.initial.memory l.memory
