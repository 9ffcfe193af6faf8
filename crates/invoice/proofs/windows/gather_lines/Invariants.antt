use Rattle.invoice.proofs.windows.gather_lines.Given as goal

-- The window is coherent again after every line.
abbrev pub invariant-loop-number : goal.invariant-loop-number
invariant-loop-number g l = g.W.Memory.coherent l.window
