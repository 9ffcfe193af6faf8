-- Assumes nothing.
use Rattle.std.proofs.Common.{sym, ◌∙◌, subst, arith}
use Rattle.memory.specs.Calls.{StandsAt}
use Rattle.checked.specs.Checked.{checked_meaning}
use Rattle.checked.proofs.Guards.{whole_line, stands}
use Rattle.checked.proofs.checked.CheckByteLineFormat.find.Goals as goal

pub cell_index-requires : goal.cell_index-requires
cell_index-requires c = omega (arith, whole_line c.args.borrowed.now c.args.a c.args.n (sym c.answer.ensures.read ∙ c.in_ok-answer.was))

pub returns-clause-cells : goal.returns-clause-cells
returns-clause-cells c =
    let xs = c.args.borrowed.now in
    subst (StandsAt (checked_meaning xs) xs c.args.a c.args.n) (sym c.cell_index.ensures)
    (stands xs c.args.a c.args.n (sym c.answer.ensures.read ∙ c.in_ok-answer.was))
