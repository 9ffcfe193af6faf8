use Rattle.std.specs.Prelude.{is_ok}
use Rattle.window.specs.State.{Standing}
use Rattle.window_calls.proofs.script.check_opened.Given as goal

-- The window is coherent again after every step.
abbrev pub invariant-loop-access : goal.invariant-loop-access
invariant-loop-access g l =
    let w = l.window in
    Standing (g.P.Mapping.armed w.mapping) (g.M.Memory.coherent w.below) (is_ok w.opening) (g.P.Mapping.meaning w.mapping) (g.M.Memory.meaning w.below) w.tlb
