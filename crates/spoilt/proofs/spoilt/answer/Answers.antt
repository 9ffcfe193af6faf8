-- Assumes nothing.
use Rattle.std.proofs.Common.{◌≡◌, Err, sym, ap, ◌∙◌}
use Rattle.std.proofs.lemmas.Result.{err_from_is_err_and}
use Rattle.memory.specs.Run.{check_run}
use Rattle.memory.specs.Calls.{read_answer}
use Rattle.memory.proofs.Calls.{writes_as_reads}
use Rattle.spoilt.specs.Spoilt.{spoilt_meaning}
use Rattle.spoilt.proofs.Spoilts.{refused, answered}
use Rattle.spoilt.proofs.spoilt.answer.Goals as goal

pub returns-in_err-check_run : goal.returns-in_err-check_run
returns-in_err-check_run c =
    let xs = c.args.borrowed.now in
    let p = err_from_is_err_and c.from_residual.result c.from_residual.ensures.1 in
    let tested = c.check_run.ensures ∙ ap (λ s. check_run s c.args.a c.args.n) c.size.ensures in
    let read = p.1 ∙ sym (refused xs c.args.a c.args.n p.0 (sym tested ∙ c.in_err-check_run.was ∙ ap Err (sym p.2))) in
    record { read = read; write = read ∙ sym (writes_as_reads (spoilt_meaning xs) c.args.a c.args.n) }

pub returns : goal.returns
returns c =
    let xs = c.args.borrowed.now in
    let tested = c.check_run.ensures ∙ ap (λ s. check_run s c.args.a c.args.n) c.size.ensures in
    let read : c.cells_answer.result ≡ read_answer (spoilt_meaning xs) c.args.a c.args.n =
    c.cells_answer.ensures ∙ answered xs c.args.a c.args.n (sym tested ∙ c.in_ok-check_run.was) in
    record { read = read; write = read ∙ sym (writes_as_reads (spoilt_meaning xs) c.args.a c.args.n) }
