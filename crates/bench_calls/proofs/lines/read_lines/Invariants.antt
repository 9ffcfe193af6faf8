use Rattle.std.proofs.Common.{◌≡◌}
use Rattle.bench_calls.specs.Lines.{all_read, last_read}
use Rattle.bench_calls.proofs.lines.read_lines.Given as goal

-- The lines so far are read, and the memory means what it meant.
abbrev pub invariant-loop-number : goal.invariant-loop-number
invariant-loop-number g l =
    (g.M.Memory.coherent l.memory)
    × (g.M.Memory.meaning l.memory ≡ g.M.Memory.meaning l.fn.memory)
    × (l.all ≡ all_read (g.M.Memory.meaning l.fn.memory) l.number)
    × (l.line ≡ last_read (g.M.Memory.meaning l.fn.memory) l.number l.fn.line)
