-- Assumes nothing.
use Rattle.memory.specs.Reach.{reading, writing}
use Rattle.memory.proofs.Reaches.{reached_one, reached_more}
use Rattle.walk.proofs.marks.mark_top.Goals as goal

pub returns-clause-reached : goal.returns-clause-reached
returns-clause-reached g c =
    reached_more g.M.Memory.step (reached_one g.M.Memory.step (reading _ _) c.read.ensures.step) (reached_one g.M.Memory.step (writing _ _) c.write.ensures.step)
