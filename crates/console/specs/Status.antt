-- How a program ends. Assumes nothing.
-- exit_status done: the status of a program whose work came out so: 0 where it was done, 1 where it failed
use Rattle.std.specs.Prelude.{ℕ, Ok, Err, Result}

abbrev pub exit_status : {E : Type 0} → Result (Unit {0}) E → ℕ
exit_status (Ok done) = 0
exit_status (Err error) = 1
