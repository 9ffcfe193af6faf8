-- Assumes nothing.
use Rattle.std.proofs.Common.{◌≡◌, ◌-◌, ◌+◌, ◌≤◌, length, drop, rules, arith, sym, ap, ◌∙◌}
use Rattle.std.proofs.lemmas.List.{length-drop, drop-drop}
use Rattle.memory.specs.Calls.{stored}
use Rattle.memory.proofs.Calls.{written_refused, written_accepted}
use Rattle.memory.proofs.Reaches.{reached_none, reached_more}
use Rattle.page_table.specs.Walk.{windowed}
use Rattle.span.specs.Runs.{run_size}
use Rattle.span.proofs.Parts.{part_of, part_is, length_part, stored_none_yet, stored_more}
use Rattle.span.proofs.Lengths.{write_ends}
use Rattle.span.proofs.Goings.{span_none, span_all, span_refused, span_more}
use Rattle.span.proofs.span.write_span.Goals.{After-run_size-n}
use Rattle.span.proofs.span.write_span.Given.{Over}
use Rattle.span.proofs.span.write_span.Goals as goal

pub loop-run-init : goal.loop-run-init
loop-run-init g c = record {
  so_far = span_none _ _ _ _ _ _ _ _ _ (omega (arith, c.run_count-run-end.ensures));
  window = stored_none_yet _ _ c.args.bytes.now;
  low = omega arith;
  small = omega arith;
  kept = c.requires.coherent;
  reached = reached_none g.M.Memory.step _;
  ready = c.requires.ready;
}

run : (g : Over) (c : After-run_size-n g) → c.run_size-n.result ≡ run_size (c.args.a.0 + c.loop-run.done) (length (drop c.loop-run.done c.args.bytes.now))
run g c = c.run_size-n.ensures ∙ ap (run_size (c.args.a.0 + c.loop-run.done)) (sym (length-drop c.loop-run.done c.args.bytes.now))

inside : (g : Over) (c : After-run_size-n g) → c.loop-run.done + c.run_size-n.result ≤ length c.args.bytes.now
inside g c = omega (arith, c.run_size-n.ensures, c.loop-run.invariant.low)

pub slice_bounds-part-end : goal.slice_bounds-part-end
slice_bounds-part-end g c = let low = inside g (goal.at.slice_bounds-part-end g c).After-run_size-n in search rules

pub returns-in-Err-clause-ended : goal.returns-in-Err-clause-ended
returns-in-Err-clause-ended g c =
    let e = c.write_one.ensures in
    let at = (goal.at.returns-in-Err-clause-ended g c).After-run_size-n in
    span_refused _ _ _ _ c.loop-run.invariant.so_far (c.run_count-run-end.result - (c.loop-run.run + 1)) (omega (arith, c.loop-run-test.true)) c.run_size-n.result (run g at) _ (part_is c.loop-run.done c.run_size-n.result c.args.bytes.now) _ e.behind
    c.in-Err.fault (sym e.answer ∙ c.in-Err.is)

pub returns-in-Err-clause-window : goal.returns-in-Err-clause-window
returns-in-Err-clause-window g c =
    let e = c.write_one.ensures in
    e.window ∙ written_refused _ _ _ c.in-Err.fault (sym e.answer ∙ c.in-Err.is) ∙ c.loop-run.invariant.window

pub returns-in-Err-clause-reached : goal.returns-in-Err-clause-reached
returns-in-Err-clause-reached g c = reached_more g.M.Memory.step c.loop-run.invariant.reached c.write_one.ensures.reached

pub loop-run-preserved : goal.loop-run-preserved
loop-run-preserved g c =
    let e = c.write_one.ensures in
    let f = c.loop-run.invariant in
    let at = (goal.at.loop-run-preserved g c).After-run_size-n in
    let done = c.loop-run.done in
    let n = c.run_size-n.result in
    let taken = sym e.answer ∙ c.in_default.is in
    let size : length (part_of done n c.args.bytes.now) ≡ n = length_part done n c.args.bytes.now (inside g at) in
    record {
      so_far = span_more _ _ _ _ f.so_far (c.run_count-run-end.result - (c.loop-run.run + 1)) (omega (arith, c.loop-run-test.true)) n (run g at) _ (part_is done n c.args.bytes.now) _ e.behind
          c.in_default.field-0 taken _ (sym (drop-drop n done c.args.bytes.now));
      window =
          e.window ∙ written_accepted _ _ _ taken
          ∙ ap (λ w. stored w (c.args.a.0 + done) (part_of done n c.args.bytes.now)) f.window
          ∙ stored_more (windowed (g.P.Mapping.meaning c.args.mapping.now) (g.M.Memory.meaning c.args.below.now)) c.args.a.0 done n c.args.bytes.now (inside g at);
      low = inside g at;
      small = omega (arith, write_ends _ _ f.ready.lawful (c.args.a.0 + done) _ taken, size);
      kept = e.coherent;
      reached = reached_more g.M.Memory.step f.reached e.reached;
      ready = e.ready;
    }

pub returns-clause-ended : goal.returns-clause-ended
returns-clause-ended g c = span_all _ _ _ _ c.loop-run.invariant.so_far (omega (arith, c.loop-run-test.false))
