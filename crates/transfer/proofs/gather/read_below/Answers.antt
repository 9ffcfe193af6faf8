-- Assumes nothing.
use Rattle.memory.proofs.Reaches.{only_read_one}
use Rattle.transfer.proofs.gather.read_below.Goals as goal

pub returns-clause-reads : goal.returns-clause-reads
returns-clause-reads g c = only_read_one g.M.Memory.step _ _ c.read.ensures.step
