-- Assumes nothing.
use Rattle.std.proofs.Common.{ap, ◌∙◌}
use Rattle.memory.proofs.Reaches.{only_reached, reached_more}
use Rattle.page_table.specs.Walk.{windowed}
use Rattle.card_c.proofs.Fillings.{stored_nothing}
use Rattle.card_c.proofs.lent.write_memory.Goals as goal

pub returns-in-Err-clause-window : goal.returns-in-Err-clause-window
returns-in-Err-clause-window g c =
    ap (windowed (g.P.Mapping.meaning c.args.mapping.now)) c.check_opening.ensures.meaning
    ∙ stored_nothing _ c.args.address c.refused.result.done c.args.content.now (ap (λ r. r.done) c.refused.ensures)

pub returns-clause-reached : goal.returns-clause-reached
returns-clause-reached g c = reached_more g.M.Memory.step (only_reached g.M.Memory.step c.check_opening.ensures.reads) c.write_span-spanned.ensures.reached
