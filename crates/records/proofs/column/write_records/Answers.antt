-- Assumes nothing.
use Rattle.std.proofs.Common.{Err, sym, ap, ◌∙◌}
use Rattle.std.proofs.lemmas.Result.{err_from_is_err_and}
use Rattle.records.proofs.Columns.{progress_none, write_accepted, write_more, write_refused, progress_all}
use Rattle.records.proofs.Made.{made_none, made_more, made_refused, made_all}
use Rattle.records.proofs.column.write_records.Goals as goal

pub loop-index-init : goal.loop-index-init
loop-index-init g c = (progress_none _ _, c.requires, made_none g.M.Memory.step _ _ _)

pub loop-index-preserved : goal.loop-index-preserved
loop-index-preserved g c =
    let low = c.loop-index-test.true in
    let is = c.record_of.ensures in
    let so_far = c.loop-index.invariant.0 in
    let ok = sym c.write.ensures.answer ∙ c.in_ok-write.was in (
      write_more so_far low c.record_address.ensures is c.write.ensures.meaning ok,
      c.write.ensures.coherent,
      made_more g.M.Memory.step _ c.args.prices.now c.loop-index.invariant.2 low c.record_address.ensures is c.write.ensures.step
          (write_accepted so_far low c.record_address.ensures is c.write.ensures.meaning ok),
    )

pub returns-in_err-write : goal.returns-in_err-write
returns-in_err-write g c =
    let low = c.loop-index-test.true in
    let is = c.record_of.ensures in
    let p = err_from_is_err_and c.from_residual.result c.from_residual.ensures.1 in
    let refused = sym c.write.ensures.answer ∙ c.in_err-write.was ∙ ap Err (sym p.2) in
    let end = write_refused c.loop-index.invariant.0 low c.record_address.ensures is c.write.ensures.meaning p.0 refused in
    let calls = made_refused g.M.Memory.step _ c.args.prices.now c.loop-index.invariant.2 low c.record_address.ensures is c.write.ensures.step p.0 end.first in
    record {
      answer = p.1 ∙ sym end.answer;
      meaning = end.meaning;
      kept = end.kept;
      coherent = c.write.ensures.coherent;
      calls = calls;
      reached = record { calls = _; linked = calls };
    }

pub returns : goal.returns
returns g c =
    let so_far = c.loop-index.invariant.0 in
    let all = progress_all so_far c.loop-index-test.false in
    let calls = made_all g.M.Memory.step _ c.args.prices.now c.loop-index.invariant.2 c.loop-index-test.false in
    record {
      answer = sym all.0;
      meaning = all.1;
      kept = so_far.kept;
      coherent = c.loop-index.invariant.1;
      calls = calls;
      reached = record { calls = _; linked = calls };
    }
