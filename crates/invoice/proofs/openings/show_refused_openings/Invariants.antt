use Rattle.invoice.proofs.openings.show_refused_openings.Given as goal

-- The memory is coherent again after every opening.
abbrev pub invariant-loop-case : goal.invariant-loop-case
invariant-loop-case g l = g.M.Memory.coherent l.memory
