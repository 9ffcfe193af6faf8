-- Assumes nothing.
use Rattle.std.proofs.Common.{◌≡◌, ◌+◌, ◌/◌, cond, ◌&&◌, length, None, Err, Ok, refl, sym, ap, ◌∙◌, rules}
use Rattle.memory.specs.Reach.{reading}
use Rattle.memory.specs.Run.{check_run}
use Rattle.memory.specs.Up.{cells_up}
use Rattle.memory.proofs.Calls.{answer_outside}
use Rattle.memory.proofs.Reaches.{reached_none, only_reached}
use Rattle.cache_lines.specs.Lines.{sets_of}
use Rattle.cache_lines.proofs.Finds.{hit_none}
use Rattle.cache.specs.Rules.{after_prefetch, after_miss, prefetch_keeps, miss_keeps, first_hit}
use Rattle.cache.proofs.Copies.{mirrored_as, mirrored_followed, mirrored_missed}
use Rattle.cache.proofs.Turns.{hit_held, not_held, delivered_outside, not_taken, hit_answer, hit_buffer, read_hit, read_miss}
use Rattle.cache.proofs.layer.CacheMemory.read.Goals.{In_err-check_run, In_ok-check_run, In_default}
use Rattle.cache.proofs.layer.CacheMemory.read.Given.{Over}
use Rattle.cache.proofs.layer.CacheMemory.read.Goals as goal

bad : (g : Over) (c : In_err-check_run g) → check_run (g.M.Memory.meaning c.args.self.now.below).size c.args.a (length c.args.buffer.now) ≡ Err c.in_err-check_run.field-0.0
bad g c = search rules

taken : (g : Over) (c : In_ok-check_run g) → check_run (g.M.Memory.meaning c.args.self.now.below).size c.args.a (length c.args.buffer.now) ≡ Ok tt
taken g c = search rules

none : (g : Over) (c : In_default g) → None ≡ first_hit (c.args.a / 128) (sets_of c.args.self.now.lines)
none g c = search rules

pub returns-in_err-check_run-clause-answer : goal.returns-in_err-check_run-clause-answer
returns-in_err-check_run-clause-answer g c =
    let out : c.from_residual.result ≡ Err c.in_err-check_run.field-0.0 = search rules in
    out ∙ sym (answer_outside (cells_up (g.M.Memory.meaning c.args.self.now.below)) _ _ _ (bad g (goal.at.returns-in_err-check_run-clause-answer g c).In_err-check_run))

pub returns-in_err-check_run-clause-buffer : goal.returns-in_err-check_run-clause-buffer
returns-in_err-check_run-clause-buffer g c =
    delivered_outside (cells_up (g.M.Memory.meaning c.args.self.now.below)) _ _ _ (bad g (goal.at.returns-in_err-check_run-clause-buffer g c).In_err-check_run) c.args.buffer.now refl

pub returns-in_err-check_run-clause-step : goal.returns-in_err-check_run-clause-step
returns-in_err-check_run-clause-step g c =
    not_taken (g.M.Memory.meaning c.args.self.now.below) _ _ _ (bad g (goal.at.returns-in_err-check_run-clause-step g c).In_err-check_run)
    _ (reading c.args.a c.args.buffer.now) refl refl (reached_none _ c.args.self.now.below) refl

pub returns-in-Some-clause-answer : goal.returns-in-Some-clause-answer
returns-in-Some-clause-answer g c =
    let x = hit_held _ c.in-Some.first c.in-Some.ensures.first in
    hit_answer _ c.args.a c.args.buffer.now (sets_of c.args.self.now.lines) (taken g (goal.at.returns-in-Some-clause-answer g c).In_ok-check_run) c.requires.mirrored x.0 x.1

pub returns-in-Some-clause-buffer : goal.returns-in-Some-clause-buffer
returns-in-Some-clause-buffer g c =
    let x = hit_held _ c.in-Some.first c.in-Some.ensures.first in
    c.hit.ensures.buffer
    ∙ hit_buffer _ c.args.a c.args.buffer.now (sets_of c.args.self.now.lines) (taken g (goal.at.returns-in-Some-clause-buffer g c).In_ok-check_run) c.requires.mirrored x.0 x.1

pub returns-in-Some-clause-coherent : goal.returns-in-Some-clause-coherent
returns-in-Some-clause-coherent g c =
    let m = g.M.Memory.meaning c.args.self.now.below in
    let n = c.args.a / 128 in
    record {
      below = c.follow_hit-kept.ensures.coherent;
      mirrored =
          mirrored_as c.follow_hit-kept.ensures.meaning
          (c.follow_hit-kept.ensures.lines ∙ ap (λ s. cond c.in-Some.first (after_prefetch m (n + 1) s) s) c.hit.ensures.sets)
          (mirrored_followed m n (sets_of c.args.self.now.lines) c.in-Some.first c.requires.mirrored);
      steady = c.count.ensures.steady;
    }

pub returns-in-Some-clause-step : goal.returns-in-Some-clause-step
returns-in-Some-clause-step g c =
    let m = g.M.Memory.meaning c.args.self.now.below in
    let n = c.args.a / 128 in
    let e = c.follow_hit-kept.ensures in
    read_hit m _ c.args.a c.args.buffer.now _ _ (taken g (goal.at.returns-in-Some-clause-step g c).In_ok-check_run) e.meaning
    (only_reached _ e.reads) c.in-Some.first c.follow_hit-kept.result c.in-Some.ensures.first
    (e.kept ∙ ap (λ s. c.in-Some.first && prefetch_keeps m (n + 1) s) c.hit.ensures.sets)
    (e.lines ∙ ap (λ s. cond c.in-Some.first (after_prefetch m (n + 1) s) s) c.hit.ensures.sets)
    c.count.ensures.counts e.quiet

pub returns-clause-coherent : goal.returns-clause-coherent
returns-clause-coherent g c =
    let m = g.M.Memory.meaning c.args.self.now.below in
    let n = c.args.a / 128 in
    let s = sets_of c.args.self.now.lines in
    record {
      below = c.miss-answer.ensures.coherent;
      mirrored =
          mirrored_as c.miss-answer.ensures.meaning
          (c.miss-answer.ensures.lines ∙ ap (after_miss m n) (c.hit.ensures.sets ∙ hit_none n s (not_held _ (none g (goal.at.returns-clause-coherent g c).In_default))))
          (mirrored_missed m n s c.requires.mirrored);
      steady = c.count-2.ensures.steady;
    }

pub returns-clause-step : goal.returns-clause-step
returns-clause-step g c =
    let m = g.M.Memory.meaning c.args.self.now.below in
    let n = c.args.a / 128 in
    let s = sets_of c.args.self.now.lines in
    let e = c.miss-answer.ensures in
    let same = c.hit.ensures.sets ∙ hit_none n s (not_held _ (none g (goal.at.returns-clause-step g c).In_default)) in
    read_miss m _ c.args.a c.args.buffer.now _ _ (taken g (goal.at.returns-clause-step g c).In_ok-check_run) e.meaning
    (only_reached _ e.reads) c.miss-answer.result.1 (none g (goal.at.returns-clause-step g c).In_default)
    (e.kept ∙ ap (miss_keeps m n) same) (e.lines ∙ ap (after_miss m n) same) c.count-2.ensures.counts
