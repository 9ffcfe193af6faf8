-- Assumes nothing.
use Rattle.std.proofs.Common.{◌≡◌, length, Err, Ok, refl, sym, ap, ◌∙◌, rules, subst}
use Rattle.memory.specs.Reach.{writing, Reached, Step}
use Rattle.memory.specs.Run.{check_run}
use Rattle.memory.specs.Up.{cells_up}
use Rattle.memory.proofs.Calls.{written_refused}
use Rattle.memory.proofs.Reaches.{reached_none, reached_one}
use Rattle.memory.proofs.Ups.{written_up}
use Rattle.cache_lines.specs.Lines.{sets_of}
use Rattle.cache.specs.Counts.{Steady}
use Rattle.cache.proofs.Copies.{mirrored_as}
use Rattle.cache.proofs.Turns.{write_outside, not_taken, write_up, mirrored_after, write_called}
use Rattle.cache.proofs.layer.CacheMemory.write.Goals.{In_err-check_run, In_ok-check_run}
use Rattle.cache.proofs.layer.CacheMemory.write.Given.{Over}
use Rattle.cache.proofs.layer.CacheMemory.write.Goals as goal

bad : (g : Over) (c : In_err-check_run g) → check_run (g.M.Memory.meaning c.args.self.now.below).size c.args.a (length c.args.bytes.now) ≡ Err c.in_err-check_run.field-0.0
bad g c = search rules

taken : (g : Over) (c : In_ok-check_run g) → check_run (g.M.Memory.meaning c.args.self.now.below).size c.args.a (length c.args.bytes.now) ≡ Ok tt
taken g c = search rules

pub returns-in_err-check_run-clause-answer : goal.returns-in_err-check_run-clause-answer
returns-in_err-check_run-clause-answer g c =
    let out : c.from_residual.result ≡ Err c.in_err-check_run.field-0.0 = search rules in
    out ∙ sym (write_outside (cells_up (g.M.Memory.meaning c.args.self.now.below)) _ _ _ (bad g (goal.at.returns-in_err-check_run-clause-answer g c).In_err-check_run))

pub returns-in_err-check_run-clause-meaning : goal.returns-in_err-check_run-clause-meaning
returns-in_err-check_run-clause-meaning g c =
    let m = cells_up (g.M.Memory.meaning c.args.self.now.below) in
    sym (written_refused m _ c.args.bytes.now _ (write_outside m _ _ _ (bad g (goal.at.returns-in_err-check_run-clause-meaning g c).In_err-check_run)))

pub returns-in_err-check_run-clause-step : goal.returns-in_err-check_run-clause-step
returns-in_err-check_run-clause-step g c =
    not_taken (g.M.Memory.meaning c.args.self.now.below) _ _ _ (bad g (goal.at.returns-in_err-check_run-clause-step g c).In_err-check_run)
    _ (writing c.args.a c.args.bytes.now) refl refl (reached_none _ c.args.self.now.below) refl

pub returns-clause-answer : goal.returns-clause-answer
returns-clause-answer g c =
    write_up _ c.args.a c.args.bytes.now c.from_below-answer.result (taken g (goal.at.returns-clause-answer g c).In_ok-check_run) (search rules)

pub returns-clause-meaning : goal.returns-clause-meaning
returns-clause-meaning g c =
    ap (λ x. cells_up (g.M.Memory.meaning x)) c.settle_write.ensures.below
    ∙ ap cells_up c.write.ensures.meaning ∙ written_up (g.M.Memory.meaning c.args.self.now.below) c.args.a c.args.bytes.now

pub returns-clause-coherent : goal.returns-clause-coherent
returns-clause-coherent g c =
    let m = g.M.Memory.meaning c.args.self.now.below in
    let same = c.settle_write.ensures.below in
    record {
      below = subst g.M.Memory.coherent (sym same) c.write.ensures.coherent;
      mirrored =
          mirrored_as {s = sets_of c.settle_write.new.self.lines} (ap g.M.Memory.meaning same ∙ c.write.ensures.meaning) refl
          (mirrored_after m c.args.a c.args.bytes.now c.from_below-answer.result (taken g (goal.at.returns-clause-coherent g c).In_ok-check_run) (search rules) (sets_of c.args.self.now.lines) (sets_of c.settle_write.new.self.lines) (search rules) c.requires.mirrored);
      steady = subst Steady (sym c.settle_write.ensures.counts) c.requires.steady;
    }

pub returns-clause-step : goal.returns-clause-step
returns-clause-step g c =
    let m = g.M.Memory.meaning c.args.self.now.below in
    let same = c.settle_write.ensures.below in
    let R = Step g.M.Memory.meaning g.M.Memory.coherent g.M.Memory.step in
    write_called m c.args.a c.args.bytes.now c.from_below-answer.result (taken g (goal.at.returns-clause-step g c).In_ok-check_run) (search rules)
    _ _ _ (ap g.M.Memory.meaning same ∙ c.write.ensures.meaning)
    (subst (Reached R c.args.self.now.below) (sym same) (reached_one R _ (record { cells = c.write.ensures.meaning; kept = c.write.ensures.coherent; step = c.write.ensures.step })))
    (search rules) c.settle_write.ensures.counts
