-- Which registers arm. Assumes nothing.
-- check_arming rules rs: acceptance of the registers rs, or the refusal
-- arms rules rs: whether they arm
-- ArmedValues rules rs: they fit their widths and arm, as the values of every mapping do that arming made
use Rattle.std.specs.Prelude.{◌≡◌, ℕ, ◌^◌, Bool, true, cond, not, ◌||◌, List, is_ok, Ok, Err, Result, ◌==◌, nat_lt}
use Rattle.mapping.specs.Rules.{Rules, image_size, divides}
use Rattle.mapping.specs.Registers.{Fits}
use Rattle.mapping.specs.declared.refusal.ArmingRefusal.{ArmingRefusal}
use Rattle.mapping.specs.declared.refusal.ArmingRefusal.TheVariants.{BadImage, BadCondition, TooFar}

-- first the image size, then the mapping's condition, then the extent
abbrev pub check_arming : Rules → List ℕ → Result (Unit {0}) ArmingRefusal
check_arming rules rs =
    cond (image_size rs == 0 || not (divides 128 (image_size rs))) (Err BadImage)
    (cond (not (rules.condition rs)) (Err BadCondition)
    (cond (nat_lt (2 ^ 34) (rules.extent rs)) (Err TooFar) (Ok tt)))

abbrev pub arms : Rules → List ℕ → Bool
arms rules rs = is_ok (check_arming rules rs)

pub record ArmedValues (rules : Rules) (rs : List ℕ) : Type 0 where
  pub passed : arms rules rs ≡ true
  pub fit : Fits rules.widths rs
