-- Assumes nothing.
use Rattle.std.proofs.Common.{◌≡◌, false, is_ok, length, refl, ◌∙◌, rules}
use Rattle.memory.specs.Reach.{reading}
use Rattle.memory.proofs.Reaches.{reached_none}
use Rattle.window.proofs.Shown.{called, shut_answer, shut_delivered, shut_called}
use Rattle.window.proofs.window.WindowMemory.read.Goals.{Then-is_err}
use Rattle.window.proofs.window.WindowMemory.read.Given.{Over}
use Rattle.window.proofs.window.WindowMemory.read.Goals as goal

is_shut : (g : Over) (c : Then-is_err g) → is_ok c.args.self.now.opening ≡ false
is_shut g c = search rules

pub returns-then-is_err-clause-answer : goal.returns-then-is_err-clause-answer
returns-then-is_err-clause-answer g c =
    c.check_run.ensures ∙ shut_answer _ _ _ (is_ok c.args.self.now.opening) (is_shut g (goal.at.returns-then-is_err-clause-answer g c).Then-is_err) (length c.args.buffer.now)

pub returns-then-is_err-clause-buffer : goal.returns-then-is_err-clause-buffer
returns-then-is_err-clause-buffer g c =
    shut_delivered _ _ _ (is_ok c.args.self.now.opening) (is_shut g (goal.at.returns-then-is_err-clause-buffer g c).Then-is_err) c.args.buffer.now

pub returns-then-is_err-clause-step : goal.returns-then-is_err-clause-step
returns-then-is_err-clause-step g c =
    shut_called (refl, refl) (reached_none g.M.Memory.step c.args.self.now.below) (is_ok c.args.self.now.opening) (is_shut g (goal.at.returns-then-is_err-clause-step g c).Then-is_err) _ _ _ (reading c.args.a c.args.buffer.now)

pub returns-clause-step : goal.returns-clause-step
returns-clause-step g c =
    let e = c.read_run.ensures in
    called (refl, refl) e.reached (is_ok c.args.self.now.opening) _ _ _ _ _ (reading c.args.a c.args.buffer.now) c.requires.ready (search rules) (search rules)
