-- Both factors passed their tests. Assumes nothing.
use Rattle.std.proofs.Common.{◌≡◌, ℕ, ◌*◌, ◌<◌, true, mul-pos, arith, rules}
use Rattle.mapping.specs.Element.{is_element_size}
use Rattle.mapping.proofs.Elements.{is_sized}
use Rattle.units.proofs.Powers.{power_some}
use Rattle.transpose.proofs.transpose.TransposeRegisters.condition.Goals as goal
use Rattle.transpose.proofs.transpose.TransposeRegisters.condition.Goals.{then-is_element_size, else-is_element_size, then-is_power_of_two, else-is_power_of_two}

some_bytes : (B : ℕ) → is_element_size B ≡ true → 0 < B
some_bytes B whole = let size = is_sized B whole in omega arith

pub nonzero_rem-image_size : goal.nonzero_rem-image_size
nonzero_rem-image_size c =
    elim c.if-is_power_of_two.branch [
      | then-is_power_of_two w ↦
          elim c.if-is_element_size.branch [
            | then-is_element_size v ↦
                let bytes = some_bytes c.get-element_size.result (search rules) in
                let rows = power_some c.get-row_count.result (search rules) in
                let both : 0 < c.get-element_size.result * c.get-row_count.result = mul-pos bytes rows in
                omega arith
            | else-is_element_size v ↦ cc
          ]
      | else-is_power_of_two w ↦ cc
    ]
