-- Assumes nothing.
use Rattle.memory.specs.Reach.{writing}
use Rattle.memory.proofs.Reaches.{reached_one}
use Rattle.records.proofs.price.write_price.Goals as goal

pub returns-clause-reached : goal.returns-clause-reached
returns-clause-reached g c = reached_one g.M.Memory.step (writing _ _) c.write.ensures.step
