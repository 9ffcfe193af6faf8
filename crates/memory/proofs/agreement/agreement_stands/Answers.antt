-- Assumes nothing.
use Rattle.memory.proofs.Relations.{agreement_holds}
use Rattle.memory.proofs.agreement.agreement_stands.Goals as goal

pub returns : goal.returns
returns c = agreement_holds
