use Rattle.std.proofs.Common.{map}
use Rattle.call_list.specs.Record.{recorded}
use Rattle.call_list.proofs.Playing.{Playing}
use Rattle.call_list.proofs.list.play.Given as goal

-- The calls so far are made, and the others stand as they stood.
abbrev pub invariant-loop-call : goal.invariant-loop-call
invariant-loop-call g l =
    Playing g.M.Memory.meaning g.M.Memory.coherent g.M.Memory.step l.fn.memory (map recorded l.fn.calls) (map recorded l.calls) l.call-index l.memory
