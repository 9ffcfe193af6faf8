use Rattle.cache_lines.specs.Lines.{sets_of}
use Rattle.cache.specs.State.{Standing}
use Rattle.list_calls.proofs.cached_steps.check_steps.Given as goal

-- The cache is coherent again after every step.
abbrev pub invariant-loop-step : goal.invariant-loop-step
invariant-loop-step g l =
    let c = l.cache in
    Standing (g.M.Memory.coherent c.below) (g.M.Memory.meaning c.below) (sets_of c.lines) c.counts
