-- What the cache reports is what it counted of the calls that the window made. Assumes nothing.
use Rattle.std.proofs.Common.{ap, ◌∙◌}
use Rattle.memory.proofs.Reaches.{only_reached}
use Rattle.card_c.proofs.Counted.{counted_under, answered_under}
use Rattle.card_c.proofs.check.check_under.Goals as goal

pub returns-clause-answer : goal.returns-clause-answer
returns-clause-answer g c =
    let F = g.F.LineFormat in
    let same = ap (λ m. F.meaning m.bytes.now) c.new-below.ensures.below ∙ ap F.meaning c.new.ensures.bytes.holds in
    answered_under _ _ _ _ _ _ _ c.report.result same c.check_memory-answer.ensures.answer c.with_cache.ensures
    (counted_under (λ m. F.meaning m.bytes.now) _ _ c.new-below.result c.check_memory-answer.new.below _ same c.new-below.ensures.state (only_reached _ c.check_memory-answer.ensures.reads) c.report.result c.report.ensures)
