-- Assumes nothing.
use Rattle.std.proofs.Common.{◌≡◌, length, Ok, Err, sym, ◌∙◌, rules}
use Rattle.memory.proofs.Reaches.{reached_more}
use Rattle.memory.specs.declared.access.Access.TheVariants.{Write}
use Rattle.transfer.proofs.Callings.{GatheredRun, gathered_run, write_refused, tlb_refused, below_write_refused, window_refused, write_accepted, tlb_accepted, spotted_after, below_write_accepted, window_accepted}
use Rattle.transfer.proofs.Reading.{read_only_reached}
use Rattle.transfer.proofs.call.write_taken.Goals.{After-gather, In_err-count, In_ok-count}
use Rattle.transfer.proofs.call.write_taken.Given.{Over}
use Rattle.transfer.proofs.call.write_taken.Goals as goal

module _ (g : Over) where
  gathered : (c : After-gather g) → GatheredRun (g.P.Mapping.meaning c.args.mapping.now) (g.M.Memory.meaning c.args.below.now) c.args.a.0 (length c.args.bytes.now) c.args.tlb.now
      c.gather.result (g.M.Memory.meaning c.gather.new.below) c.gather.new.tlb c.gather.new.line c.gather.new.spots
  gathered c =
      let e = c.gather.ensures in
      gathered_run c.blank_line-line.result c.requires.taken c.blank_line-line.ensures e.answer e.line e.spots e.tlb e.meaning

  bad : (c : In_err-count g) → c.gather.result ≡ Err c.in_err-count.field-0.0
  bad c = search rules

  good : (c : In_ok-count g) → c.gather.result ≡ Ok c.in_ok-count.count
  good c = search rules

pub returns-in_err-count-clause-answer : goal.returns-in_err-count-clause-answer
returns-in_err-count-clause-answer g c =
    let at = goal.at.returns-in_err-count-clause-answer g c in
    let out : c.from_residual.result ≡ Err c.in_err-count.field-0.0 = search rules in
    out ∙ sym (write_refused (gathered g at.After-gather) _ (bad g at.In_err-count))

pub returns-in_err-count-clause-window : goal.returns-in_err-count-clause-window
returns-in_err-count-clause-window g c =
    let at = goal.at.returns-in_err-count-clause-window g c in
    window_refused c.args.bytes.now (gathered g at.After-gather) _ (bad g at.In_err-count)

pub returns-in_err-count-clause-below : goal.returns-in_err-count-clause-below
returns-in_err-count-clause-below g c =
    let at = goal.at.returns-in_err-count-clause-below g c in
    below_write_refused c.args.bytes.now (gathered g at.After-gather) _ (bad g at.In_err-count)

pub returns-in_err-count-clause-tlb : goal.returns-in_err-count-clause-tlb
returns-in_err-count-clause-tlb g c =
    let at = goal.at.returns-in_err-count-clause-tlb g c in
    tlb_refused (gathered g at.After-gather) Write _ (bad g at.In_err-count)

pub returns-clause-answer : goal.returns-clause-answer
returns-clause-answer g c =
    let at = goal.at.returns-clause-answer g c in
    sym (write_accepted (gathered g at.After-gather) _ (good g at.In_ok-count))

pub scatter-requires-clause-spots : goal.scatter-requires-clause-spots
scatter-requires-clause-spots g c =
    let at = goal.at.scatter-requires-clause-spots g c in
    spotted_after (gathered g at.After-gather) _ (good g at.In_ok-count) _ c.mark_pages.ensures.walks

pub returns-clause-window : goal.returns-clause-window
returns-clause-window g c =
    let at = goal.at.returns-clause-window g c in
    window_accepted c.args.bytes.now (gathered g at.After-gather) _ (good g at.In_ok-count) _ _ c.scatter.ensures.all c.mark_pages.ensures.window

pub returns-clause-below : goal.returns-clause-below
returns-clause-below g c =
    let at = goal.at.returns-clause-below g c in
    below_write_accepted c.args.bytes.now (gathered g at.After-gather) _ (good g at.In_ok-count) _ _ c.scatter.ensures.all c.mark_pages.ensures.below

pub returns-clause-tlb : goal.returns-clause-tlb
returns-clause-tlb g c =
    let at = goal.at.returns-clause-tlb g c in
    tlb_accepted (gathered g at.After-gather) _ (good g at.In_ok-count) Write _ c.mark_pages.ensures.tlb

pub returns-clause-reached : goal.returns-clause-reached
returns-clause-reached g c =
    reached_more g.M.Memory.step (read_only_reached g.M.Memory.step c.gather.ensures.reads c.mark_pages.ensures.reached) c.scatter.ensures.reached
