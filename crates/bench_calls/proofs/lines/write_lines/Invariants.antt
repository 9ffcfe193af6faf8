use Rattle.std.proofs.Common.{◌≡◌}
use Rattle.bench_calls.specs.Lines.{after_writes, all_written}
use Rattle.bench_calls.proofs.lines.write_lines.Given as goal

-- The lines so far are written.
abbrev pub invariant-loop-number : goal.invariant-loop-number
invariant-loop-number g l =
    (g.M.Memory.coherent l.memory)
    × (g.M.Memory.meaning l.memory ≡ after_writes (g.M.Memory.meaning l.fn.memory) l.number l.fn.line)
    × (l.all ≡ all_written (g.M.Memory.meaning l.fn.memory) l.number l.fn.line)
