-- Assumes nothing.
use Rattle.std.proofs.Common.{sym, ◌∙◌, subst}
use Rattle.memory.specs.Calls.{StandsAt}
use Rattle.spoilt.specs.Spoilt.{spoilt_meaning}
use Rattle.spoilt.proofs.Spoilts.{stands}
use Rattle.spoilt.proofs.spoilt.OneFaultLineFormat.find.Goals as goal

pub returns-clause-cells : goal.returns-clause-cells
returns-clause-cells c =
    let xs = c.args.borrowed.now in
    subst (StandsAt (spoilt_meaning xs) xs c.args.a c.args.n) (sym c.cell_index.ensures)
    (stands xs c.args.a c.args.n (sym c.answer.ensures.read ∙ c.in_ok-answer.was))
