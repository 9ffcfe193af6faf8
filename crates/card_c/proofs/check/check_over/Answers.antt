-- Assumes nothing.
use Rattle.card_c.proofs.OverWindow.{unasked_over}
use Rattle.card_c.proofs.check.check_over.Goals as goal

pub returns-clause-answer : goal.returns-clause-answer
returns-clause-answer g c = unasked_over _ _ _ _ c.check_bare.ensures.answer
