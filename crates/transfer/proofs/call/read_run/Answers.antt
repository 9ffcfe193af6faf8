-- Assumes nothing.
use Rattle.std.proofs.Common.{◌≡◌, length, Err, sym, ◌∙◌, rules}
use Rattle.memory.specs.Reach.{reading}
use Rattle.memory.specs.Run.{check_run}
use Rattle.memory.proofs.Calls.{answer_outside}
use Rattle.memory.proofs.Reaches.{reached_none}
use Rattle.page_table.specs.Walk.{windowed}
use Rattle.transfer.proofs.Outside.{delivered_outside, below_outside, tlb_outside}
use Rattle.transfer.proofs.call.read_run.Goals.{In_err-check_run}
use Rattle.transfer.proofs.call.read_run.Given.{Over}
use Rattle.transfer.proofs.call.read_run.Goals as goal

bad : (g : Over) (c : In_err-check_run g) → check_run (g.P.Mapping.meaning c.args.mapping.now).image_size c.args.a.0 (length c.args.buffer.now) ≡ Err c.in_err-check_run.field-0.0
bad g c = search rules

pub returns-in_err-check_run-clause-answer : goal.returns-in_err-check_run-clause-answer
returns-in_err-check_run-clause-answer g c =
    let out : c.from_residual.result ≡ Err c.in_err-check_run.field-0.0 = search rules in
    out ∙ sym (answer_outside (windowed (g.P.Mapping.meaning c.args.mapping.now) (g.M.Memory.meaning c.args.below.now)) _ _ _ (bad g (goal.at.returns-in_err-check_run-clause-answer g c).In_err-check_run))

pub returns-in_err-check_run-clause-buffer : goal.returns-in_err-check_run-clause-buffer
returns-in_err-check_run-clause-buffer g c =
    delivered_outside (windowed (g.P.Mapping.meaning c.args.mapping.now) (g.M.Memory.meaning c.args.below.now)) _ _ c.args.buffer.now (bad g (goal.at.returns-in_err-check_run-clause-buffer g c).In_err-check_run)

pub returns-in_err-check_run-clause-below : goal.returns-in_err-check_run-clause-below
returns-in_err-check_run-clause-below g c =
    below_outside _ _ c.args.tlb.now _ (reading c.args.a.0 c.args.buffer.now) (bad g (goal.at.returns-in_err-check_run-clause-below g c).In_err-check_run)

pub returns-in_err-check_run-clause-tlb : goal.returns-in_err-check_run-clause-tlb
returns-in_err-check_run-clause-tlb g c =
    tlb_outside _ _ _ _ (reading c.args.a.0 c.args.buffer.now) (bad g (goal.at.returns-in_err-check_run-clause-tlb g c).In_err-check_run)

pub returns-in_err-check_run-clause-reached : goal.returns-in_err-check_run-clause-reached
returns-in_err-check_run-clause-reached g c = reached_none g.M.Memory.step c.args.below.now
