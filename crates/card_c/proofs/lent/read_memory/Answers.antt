-- Assumes nothing.
use Rattle.std.proofs.Common.{ap}
use Rattle.memory.proofs.Reaches.{only_reached, reached_more}
use Rattle.card_c.proofs.Fillings.{filled_nothing}
use Rattle.card_c.proofs.lent.read_memory.Goals as goal

pub returns-in-Err-clause-buffer : goal.returns-in-Err-clause-buffer
returns-in-Err-clause-buffer g c = filled_nothing _ _ _ c.args.buffer.now (ap (λ r. r.done) c.refused.ensures)

pub returns-clause-reached : goal.returns-clause-reached
returns-clause-reached g c = reached_more g.M.Memory.step (only_reached g.M.Memory.step c.check_opening.ensures.reads) c.read_span-spanned.ensures.reached
