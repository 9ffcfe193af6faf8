use Rattle.list_calls.proofs.cached_runs.check_tops.Given as goal

-- The memory is coherent again after every entry.
abbrev pub invariant-loop-number : goal.invariant-loop-number
invariant-loop-number g l = g.M.Memory.coherent l.memory
