-- Assumes nothing.
use Rattle.std.proofs.Common.{ap, sym, ◌∙◌}
use Rattle.window.specs.Report.{reported}
use Rattle.card_c.specs.Answer.{refused}
use Rattle.card_c.proofs.Fillings.{filled_nothing}
use Rattle.card_c.proofs.OverWindow.{refused_over, open_over, opened_as}
use Rattle.card_c.proofs.over.read_over.Goals as goal

pub returns-in-Err-clause-answer : goal.returns-in-Err-clause-answer
returns-in-Err-clause-answer g c =
    refused_over _ _ _ _ c.in-Err.refusal _ (sym c.open-window.ensures.opening ∙ sym c.opening.ensures ∙ c.in-Err.is) (c.refused.ensures ∙ ap refused c.of_opening.ensures)

pub returns-clause-answer : goal.returns-clause-answer
returns-clause-answer g c =
    let e = c.open-window.ensures in
    let made = c.new-cache.ensures.below in
    let v = c.open-window.result in
    let k = c.read_cached-spanned in
    let opened = opened_as g.P.Mapping.armed g.P.Mapping.meaning g.M.Memory.meaning g.M.Memory.coherent g.M.Memory.step (g.P.Mapping.meaning c.args.set.mapping) _ (g.M.Memory.meaning c.args.memory) v c.new-cache.result.below made
    (record { opening = e.opening; layout_is = ap g.P.Mapping.meaning e.mapping; same = e.meaning; empty = e.tlb }) in
    open_over g.P.Mapping.armed g.P.Mapping.meaning g.M.Memory.meaning g.M.Memory.coherent g.M.Memory.step _ _ _ c.new-cache.result.below k.new.cache.below opened k.ensures.reached
    _ c.in_default.field-0 _ _ _ k.result.answer k.result.done c.report-cached.result g.P.Mapping.TYPE_NUMBER c.report-report.result c.of_cached.result
    (ap (λ w. w.opening) made ∙ sym c.opening.ensures ∙ c.in_default.is)
    c.new-cache.ensures.state k.ensures.ended c.report-cached.ensures
    (c.report-report.ensures ∙ ap (λ w. reported g.P.Mapping.TYPE_NUMBER w.opening w.tlb) c.close.ensures)
    c.of_cached.ensures

pub returns-in-Err-clause-buffer : goal.returns-in-Err-clause-buffer
returns-in-Err-clause-buffer g c = filled_nothing _ _ _ c.args.buffer.now (ap (λ r. r.done) c.refused.ensures)
