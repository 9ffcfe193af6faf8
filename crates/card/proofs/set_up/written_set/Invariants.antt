use Rattle.std.proofs.Common.{◌≡◌, drop}
use Rattle.mapping.specs.Registers.{cleared}
use Rattle.card.specs.SetUp.{registers_written}
use Rattle.card.proofs.set_up.written_set.Given as goal

-- What is left to be written is written to the registers as they are.
abbrev pub invariant-loop-write : goal.invariant-loop-write
invariant-loop-write g l =
    let rules = g.P.Registers.RegisterRecord.rules in
    registers_written rules.widths (cleared rules.widths) l.fn.writes
    ≡ registers_written rules.widths (g.P.Registers.RegisterRecord.values l.set.registers) (drop l.write-index l.fn.writes)
