-- Assumes nothing.
use Rattle.std.proofs.Common.{ap, ◌∙◌}
use Rattle.memory.specs.Run.{check_run}
use Rattle.plain.proofs.Plains.{answered, answered_write}
use Rattle.plain.proofs.plain.answer.Goals as goal

pub returns : goal.returns
returns c =
    let xs = c.args.borrowed.now in
    let a = c.args.a in
    let n = c.args.n in
    let tested = c.check_run.ensures ∙ ap (λ s. check_run s a n) c.size.ensures in
    record { read = tested ∙ answered xs a n; write = tested ∙ answered_write xs a n }
