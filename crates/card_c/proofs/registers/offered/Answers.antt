-- Assumes nothing.
use Rattle.std.proofs.Common.{rules, arith, sym}
use Rattle.card_c.proofs.Offers.{offered_skipped, offered_more, offered_all}
use Rattle.card_c.proofs.registers.offered.Goals as goal
use Rattle.card_c.proofs.registers.offered.Goals.{then-value-ne0, else-value-ne0}

pub loop-number-preserved : goal.loop-number-preserved
loop-number-preserved c =
    elim c.if-value-ne0.branch [
      | then-value-ne0 w ↦ record { whole = search (rules, offered_more); few = omega arith; room = search rules }
      | else-value-ne0 w ↦ record { whole = search (rules, offered_skipped); few = omega arith; room = search rules }
    ]

pub returns-clause-writes : goal.returns-clause-writes
returns-clause-writes c = sym (offered_all _ _ _ _ _ c.loop-number.invariant.whole (search rules))
