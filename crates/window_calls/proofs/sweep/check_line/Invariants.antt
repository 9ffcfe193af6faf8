use Rattle.window_calls.proofs.sweep.check_line.Given as goal

-- The window is coherent again after every run.
abbrev pub invariant-loop-offset : goal.invariant-loop-offset
invariant-loop-offset g l = g.W.Memory.coherent l.window

abbrev pub invariant-loop-n : goal.invariant-loop-n
invariant-loop-n g l = g.W.Memory.coherent l.window
