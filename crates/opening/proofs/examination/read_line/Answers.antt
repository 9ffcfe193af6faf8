-- Assumes nothing.
use Rattle.memory.proofs.Reaches.{only_read_one}
use Rattle.opening.proofs.examination.read_line.Goals as goal

pub returns-in_err-ok-clause-reads : goal.returns-in_err-ok-clause-reads
returns-in_err-ok-clause-reads g c = only_read_one g.M.Memory.step _ _ c.read.ensures.step

pub returns-clause-reads : goal.returns-clause-reads
returns-clause-reads g c = only_read_one g.M.Memory.step _ _ c.read.ensures.step
