-- Assumes nothing.
use Rattle.std.proofs.Common.{◌≡◌, ◌-◌, ◌+◌, ◌≤◌, length, drop, rules, arith, sym, ap, ◌∙◌, refl}
use Rattle.std.proofs.lemmas.List.{length-drop}
use Rattle.memory.specs.Calls.{bytes}
use Rattle.memory.proofs.Calls.{length_bytes}
use Rattle.memory.specs.Reach.{Step}
use Rattle.memory.specs.Up.{cells_up}
use Rattle.memory.proofs.Reaches.{reached_none, reached_more}
use Rattle.span.specs.Runs.{run_size}
use Rattle.span.proofs.Parts.{part_of, part_is, length_part, part_kept, length_put, rest_kept, filled_none, filled_more, delivered_taken, delivered_refused}
use Rattle.span.proofs.Lengths.{read_ends_cached}
use Rattle.span.proofs.CacheCalls.{behind_cached}
use Rattle.span.proofs.Goings.{span_none, span_all, span_refused, span_more}
use Rattle.span.proofs.cached.read_cached.Goals.{After-run_size-n}
use Rattle.span.proofs.cached.read_cached.Given.{Over}
use Rattle.span.proofs.cached.read_cached.Goals as goal

pub loop-run-init : goal.loop-run-init
loop-run-init g c = record {
  so_far = span_none _ _ _ _ _ _ _ _ _ (omega (arith, c.run_count-run-end.ensures));
  filled = filled_none _ _ _;
  same = refl;
  low = omega arith;
  small = omega arith;
  standing = c.requires;
  reached = reached_none (Step g.M.Memory.meaning g.M.Memory.coherent g.M.Memory.step) _;
}

run : (g : Over) (c : After-run_size-n g) → c.run_size-n.result ≡ run_size (c.args.a + c.loop-run.done) (length (drop c.loop-run.done c.loop-run.buffer))
run g c = c.run_size-n.ensures ∙ ap (run_size (c.args.a + c.loop-run.done)) (sym (length-drop c.loop-run.done c.loop-run.buffer))

inside : (g : Over) (c : After-run_size-n g) → c.loop-run.done + c.run_size-n.result ≤ length c.loop-run.buffer
inside g c = omega (arith, c.run_size-n.ensures, c.loop-run.invariant.low)

pub slice_bounds-part-end : goal.slice_bounds-part-end
slice_bounds-part-end g c = let low = inside g (goal.at.slice_bounds-part-end g c).After-run_size-n in search rules

pub returns-in-Err-clause-ended : goal.returns-in-Err-clause-ended
returns-in-Err-clause-ended g c =
    let e = c.read.ensures in
    let at = (goal.at.returns-in-Err-clause-ended g c).After-run_size-n in
    span_refused _ _ _ _ c.loop-run.invariant.so_far (c.run_count-run-end.result - (c.loop-run.run + 1)) (omega (arith, c.loop-run-test.true)) c.run_size-n.result (run g at) _ (part_is c.loop-run.done c.run_size-n.result c.loop-run.buffer) _ (behind_cached e.step)
    c.in-Err.fault (sym e.answer ∙ c.in-Err.is)

pub returns-in-Err-clause-buffer : goal.returns-in-Err-clause-buffer
returns-in-Err-clause-buffer g c =
    let e = c.read.ensures in
    let at = (goal.at.returns-in-Err-clause-buffer g c).After-run_size-n in
    part_kept _ _ _ (inside g at) _ (e.buffer ∙ delivered_refused _ _ _ c.in-Err.fault (sym e.answer ∙ c.in-Err.is)) ∙ c.loop-run.invariant.filled

pub returns-in-Err-clause-meaning : goal.returns-in-Err-clause-meaning
returns-in-Err-clause-meaning g c = c.read.ensures.step.below ∙ c.loop-run.invariant.same

pub returns-in-Err-clause-reached : goal.returns-in-Err-clause-reached
returns-in-Err-clause-reached g c = reached_more (Step g.M.Memory.meaning g.M.Memory.coherent g.M.Memory.step) c.loop-run.invariant.reached c.read.ensures.step.reached

pub loop-run-preserved : goal.loop-run-preserved
loop-run-preserved g c =
    let e = c.read.ensures in
    let f = c.loop-run.invariant in
    let at = (goal.at.loop-run-preserved g c).After-run_size-n in
    let done = c.loop-run.done in
    let n = c.run_size-n.result in
    let taken = sym e.answer ∙ c.in_default.is in
    let size : length (part_of done n c.loop-run.buffer) ≡ n = length_part done n c.loop-run.buffer (inside g at) in
    let new : c.read.new.buffer ≡ bytes (cells_up (g.M.Memory.meaning c.args.cache.now.below)).cell (c.args.a + done) n =
    e.buffer ∙ delivered_taken _ _ _ c.in_default.field-0 taken
    ∙ ap (λ m. bytes (cells_up m).cell (c.args.a + done) (length (part_of done n c.loop-run.buffer))) f.same
    ∙ ap (bytes (cells_up (g.M.Memory.meaning c.args.cache.now.below)).cell (c.args.a + done)) size in
    let long : length c.read.new.buffer ≡ n = ap length new ∙ length_bytes _ (c.args.a + done) n in
    record {
      so_far = span_more _ _ _ _ f.so_far (c.run_count-run-end.result - (c.loop-run.run + 1)) (omega (arith, c.loop-run-test.true)) n (run g at) _ (part_is done n c.loop-run.buffer) _ (behind_cached e.step)
          c.in_default.field-0 taken _ (rest_kept c.loop-run.buffer done n (inside g at) _ long);
      filled = filled_more _ c.args.a done n c.loop-run.buffer c.args.buffer.now (inside g at) f.filled _ new;
      same = e.step.below ∙ f.same;
      low = omega (arith, length_put c.loop-run.buffer done n (inside g at) c.read.new.buffer long, inside g at);
      small = omega (arith, read_ends_cached _ (g.met.M.Memory.formed c.loop-run.cache.below f.standing.below) (c.args.a + done) _ taken, size);
      standing = e.coherent;
      reached = reached_more (Step g.M.Memory.meaning g.M.Memory.coherent g.M.Memory.step) f.reached e.step.reached;
    }

pub returns-clause-ended : goal.returns-clause-ended
returns-clause-ended g c = span_all _ _ _ _ c.loop-run.invariant.so_far (omega (arith, c.loop-run-test.false))
