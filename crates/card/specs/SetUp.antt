-- A set that is written and armed. Assumes nothing.
-- registers_written ws rs os: the registers rs, of the widths ws, once the values of os were offered, or the first refusal
-- values_armed rules os: the values that arm, if the values of os are offered to registers that are 0; or the first refusal
use Rattle.std.specs.Prelude.{ℕ, List, [], ◌∷◌, Ok, Err, Result}
use Rattle.std.specs.Result.{result_map_both}
use Rattle.mapping.specs.declared.refusal.RegisterRefusal.{RegisterRefusal}
use Rattle.mapping.specs.Registers.{cleared, register_answer, registers_after}
use Rattle.mapping.specs.Rules.{Rules}
use Rattle.mapping.specs.Arming.{check_arming}
use Rattle.card.specs.declared.refusal.RegisterWrite.{RegisterWrite}
use Rattle.card.specs.declared.refusal.SetUpRefusal.{SetUpRefusal}
use Rattle.card.specs.declared.refusal.SetUpRefusal.TheVariants.{Register, Arming}

abbrev pub unless_refused : RegisterWrite → Result (Unit {0}) RegisterRefusal → Result (List ℕ) SetUpRefusal → Result (List ℕ) SetUpRefusal
unless_refused o (Ok u) rest = rest
unless_refused o (Err e) rest = Err (Register o e)

unfoldable pub registers_written : List ℕ → List ℕ → List RegisterWrite → Result (List ℕ) SetUpRefusal
registers_written ws rs [] = Ok rs
registers_written ws rs (o ∷ os) =
    unless_refused o (register_answer ws o.number o.value) (registers_written ws (registers_after ws rs o.number o.value) os)

abbrev pub armed_by : Rules → Result (List ℕ) SetUpRefusal → Result (List ℕ) SetUpRefusal
armed_by rules (Ok rs) = result_map_both (λ u. rs) Arming (check_arming rules rs)
armed_by rules (Err e) = Err e

abbrev pub values_armed : Rules → List RegisterWrite → Result (List ℕ) SetUpRefusal
values_armed rules os = armed_by rules (registers_written rules.widths (cleared rules.widths) os)
