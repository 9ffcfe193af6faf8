-- Assumes nothing.
use Rattle.std.proofs.Common.{ap}
use Rattle.card_c.proofs.Fillings.{filled_nothing}
use Rattle.card_c.proofs.read.read_bytes.Goals as goal

pub returns-in-Err-clause-buffer : goal.returns-in-Err-clause-buffer
returns-in-Err-clause-buffer g c = filled_nothing _ _ _ c.args.buffer.now (ap (λ r. r.done) c.refused.ensures)
