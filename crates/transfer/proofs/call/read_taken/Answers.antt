-- Assumes nothing.
use Rattle.std.proofs.Common.{◌≡◌, length, Ok, Err, refl, sym, ◌∙◌, rules}
use Rattle.memory.specs.declared.access.Access.TheVariants.{Read}
use Rattle.transfer.proofs.Callings.{GatheredRun, gathered_run, refused, tlb_refused, below_read_refused, accepted, tlb_accepted, below_read_accepted, buffer_after}
use Rattle.transfer.proofs.Reading.{read_only_reached}
use Rattle.transfer.proofs.call.read_taken.Goals.{After-gather, In_err-count, In_ok-count}
use Rattle.transfer.proofs.call.read_taken.Given.{Over}
use Rattle.transfer.proofs.call.read_taken.Goals as goal

module _ (g : Over) where
  gathered : (c : After-gather g) → GatheredRun (g.P.Mapping.meaning c.args.mapping.now) (g.M.Memory.meaning c.args.below.now) c.args.a.0 (length c.args.buffer.now) c.args.tlb.now
      c.gather.result (g.M.Memory.meaning c.gather.new.below) c.gather.new.tlb c.gather.new.line c.gather.new.spots
  gathered c =
      let e = c.gather.ensures in
      gathered_run c.blank_line-line.result c.requires.taken c.blank_line-line.ensures e.answer e.line e.spots e.tlb e.meaning

  bad : (c : In_err-count g) → c.gather.result ≡ Err c.in_err-count.field-0.0
  bad c = search rules

  good : (c : In_ok-count g) → c.gather.result ≡ Ok c.in_ok-count.count
  good c = search rules

pub returns-in_err-count-clause-answer : goal.returns-in_err-count-clause-answer
returns-in_err-count-clause-answer g c =
    let at = goal.at.returns-in_err-count-clause-answer g c in
    let out : c.from_residual.result ≡ Err c.in_err-count.field-0.0 = search rules in
    out ∙ sym (refused (gathered g at.After-gather) _ (bad g at.In_err-count))

pub returns-in_err-count-clause-buffer : goal.returns-in_err-count-clause-buffer
returns-in_err-count-clause-buffer g c =
    let at = goal.at.returns-in_err-count-clause-buffer g c in
    buffer_after c.args.buffer.now (gathered g at.After-gather) _ (rw (bad g at.In_err-count) refl)

pub returns-in_err-count-clause-below : goal.returns-in_err-count-clause-below
returns-in_err-count-clause-below g c =
    let at = goal.at.returns-in_err-count-clause-below g c in
    below_read_refused (gathered g at.After-gather) _ (bad g at.In_err-count)

pub returns-in_err-count-clause-tlb : goal.returns-in_err-count-clause-tlb
returns-in_err-count-clause-tlb g c =
    let at = goal.at.returns-in_err-count-clause-tlb g c in
    tlb_refused (gathered g at.After-gather) Read _ (bad g at.In_err-count)

pub returns-clause-answer : goal.returns-clause-answer
returns-clause-answer g c =
    let at = goal.at.returns-clause-answer g c in
    sym (accepted (gathered g at.After-gather) _ (good g at.In_ok-count))

pub returns-clause-buffer : goal.returns-clause-buffer
returns-clause-buffer g c =
    let at = goal.at.returns-clause-buffer g c in
    buffer_after c.args.buffer.now (gathered g at.After-gather) _ (rw (good g at.In_ok-count) c.copy_from_slice.ensures.after)

pub returns-clause-below : goal.returns-clause-below
returns-clause-below g c =
    let at = goal.at.returns-clause-below g c in
    below_read_accepted (gathered g at.After-gather) _ (good g at.In_ok-count) _ c.mark_pages.ensures.below

pub returns-clause-tlb : goal.returns-clause-tlb
returns-clause-tlb g c =
    let at = goal.at.returns-clause-tlb g c in
    tlb_accepted (gathered g at.After-gather) _ (good g at.In_ok-count) Read _ c.mark_pages.ensures.tlb

pub returns-clause-reached : goal.returns-clause-reached
returns-clause-reached g c = read_only_reached g.M.Memory.step c.gather.ensures.reads c.mark_pages.ensures.reached
