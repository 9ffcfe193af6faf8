-- Assumes nothing.
use Rattle.std.proofs.Common.{◌≡◌, false, is_ok, length, refl, ◌∙◌, rules}
use Rattle.memory.specs.Reach.{writing}
use Rattle.memory.proofs.Reaches.{reached_none}
use Rattle.window.proofs.Shown.{called, shut_write_answer, shut_written, shut_called}
use Rattle.window.proofs.window.WindowMemory.write.Goals.{Then-is_err}
use Rattle.window.proofs.window.WindowMemory.write.Given.{Over}
use Rattle.window.proofs.window.WindowMemory.write.Goals as goal

is_shut : (g : Over) (c : Then-is_err g) → is_ok c.args.self.now.opening ≡ false
is_shut g c = search rules

pub returns-then-is_err-clause-answer : goal.returns-then-is_err-clause-answer
returns-then-is_err-clause-answer g c =
    c.check_run.ensures ∙ shut_write_answer _ _ _ (is_ok c.args.self.now.opening) (is_shut g (goal.at.returns-then-is_err-clause-answer g c).Then-is_err) (length c.args.bytes.now)

pub returns-then-is_err-clause-meaning : goal.returns-then-is_err-clause-meaning
returns-then-is_err-clause-meaning g c =
    shut_written _ _ _ (is_ok c.args.self.now.opening) (is_shut g (goal.at.returns-then-is_err-clause-meaning g c).Then-is_err) c.args.bytes.now

pub returns-then-is_err-clause-step : goal.returns-then-is_err-clause-step
returns-then-is_err-clause-step g c =
    shut_called (refl, refl) (reached_none g.M.Memory.step c.args.self.now.below) (is_ok c.args.self.now.opening) (is_shut g (goal.at.returns-then-is_err-clause-step g c).Then-is_err) _ _ _ (writing c.args.a c.args.bytes.now)

pub returns-clause-step : goal.returns-clause-step
returns-clause-step g c =
    let e = c.write_run.ensures in
    called (refl, refl) e.reached (is_ok c.args.self.now.opening) _ _ _ _ _ (writing c.args.a c.args.bytes.now) c.requires.ready (search rules) (search rules)
