-- Assumes nothing.
use Rattle.std.proofs.Common.{sym, ◌∙◌, subst}
use Rattle.memory.specs.Calls.{StandsAt}
use Rattle.plain.specs.Plain.{plain_meaning}
use Rattle.plain.proofs.Plains.{stands}
use Rattle.plain.proofs.plain.CellsAloneLineFormat.find.Goals as goal

pub returns-clause-cells : goal.returns-clause-cells
returns-clause-cells c =
    let xs = c.args.borrowed.now in
    subst (StandsAt (plain_meaning xs) xs c.args.a c.args.n) (sym c.cell_index.ensures)
    (stands xs c.args.a c.args.n (sym c.answer.ensures.read ∙ c.in_ok-answer.was))
