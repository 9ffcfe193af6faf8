-- Transpose: a matrix that lies row by row in the data, column by column in the image. Assumes nothing.
-- I is the image size, B the element size, D the row size, N the row count; s is a window address, e its element.
-- address B D N s: the place of s
-- extent I D N: the end of what is shown of the last row
-- condition I B D N: whole elements fill the rows, and whole columns the image
-- element_size rs, row_size rs, row_count rs: the mapping's own registers, 2 to 4
-- transpose_rules: all of this as the rules of a mapping
-- values r: what the registers hold, by their numbers
use Rattle.std.specs.Prelude.{ℕ, ◌+◌, ◌-◌, ◌*◌, ◌/◌, ◌%◌, Bool, ◌&&◌, List, [], ◌∷◌, Some, nat_le, slice_index}
use Rattle.mapping.specs.Rules.{Rules, image_size, divides}
use Rattle.mapping.specs.Element.{is_element_size}
use Rattle.units.specs.Power.{is_power_of_two}
use Rattle.transpose.specs.declared.transpose.TransposeRegisters.{TransposeRegisters}

abbrev pub address : (B D N s : ℕ) → ℕ
address B D N s = let e = s / B in e % N * D + e / N * B + s % B

abbrev pub extent : (I D N : ℕ) → ℕ
extent I D N = (N - 1) * D + I / N

abbrev pub condition : (I B D N : ℕ) → Bool
condition I B D N = is_element_size B && is_power_of_two N && divides B D && divides (B * N) I && nat_le (I / N) D

abbrev pub element_size : List ℕ → ℕ
element_size rs = slice_index rs 2

abbrev pub row_size : List ℕ → ℕ
row_size rs = slice_index rs 3

abbrev pub row_count : List ℕ → ℕ
row_count rs = slice_index rs 4

abbrev pub transpose_rules : Rules
transpose_rules = record {
  type_number = 4;
  widths = 32 ∷ 28 ∷ 12 ∷ 32 ∷ 32 ∷ [];
  condition = λ rs. condition (image_size rs) (element_size rs) (row_size rs) (row_count rs);
  grain = element_size;
  extent = λ rs. extent (image_size rs) (row_size rs) (row_count rs);
  address = λ rs s. Some (address (element_size rs) (row_size rs) (row_count rs) s);
}

abbrev pub values : TransposeRegisters → List ℕ
values r = r.common.image_size.value ∷ r.common.table_page.value ∷ r.element_size.value ∷ r.row_size.value ∷ r.row_count.value ∷ []
