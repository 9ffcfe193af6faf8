-- Stride: objects that stand one stride apart in the data, side by side in the image. Assumes nothing.
-- I is the image size, B the object size, D the stride, F the offset of an object in its stride; s is a window address.
-- address B D F s: the place of s
-- extent I B D F: the end of the last object
-- condition B D F: an object stands inside its stride, and inside one line
-- object_size rs, stride rs, object_offset rs: the mapping's own registers, 2 to 4
-- stride_rules: all of this as the rules of a mapping
-- values r: what the registers hold, by their numbers
use Rattle.std.specs.Prelude.{ℕ, ◌+◌, ◌-◌, ◌*◌, ◌/◌, ◌%◌, Bool, not, ◌&&◌, List, [], ◌∷◌, Some, ◌==◌, nat_le, slice_index}
use Rattle.mapping.specs.Rules.{Rules, image_size, divides}
use Rattle.mapping.specs.Element.{is_element_size}
use Rattle.stride.specs.declared.stride.StrideRegisters.{StrideRegisters}

abbrev pub address : (B D F s : ℕ) → ℕ
address B D F s = s / B * D + F + s % B

abbrev pub extent : (I B D F : ℕ) → ℕ
extent I B D F = (I / B - 1) * D + F + B

abbrev pub condition : (B D F : ℕ) → Bool
condition B D F = is_element_size B && not (D == 0) && divides 128 D && nat_le (F + B) D && nat_le (F % 128 + B) 128

abbrev pub object_size : List ℕ → ℕ
object_size rs = slice_index rs 2

abbrev pub stride : List ℕ → ℕ
stride rs = slice_index rs 3

abbrev pub object_offset : List ℕ → ℕ
object_offset rs = slice_index rs 4

abbrev pub stride_rules : Rules
stride_rules = record {
  type_number = 3;
  widths = 32 ∷ 28 ∷ 12 ∷ 16 ∷ 12 ∷ [];
  condition = λ rs. condition (object_size rs) (stride rs) (object_offset rs);
  grain = object_size;
  extent = λ rs. extent (image_size rs) (object_size rs) (stride rs) (object_offset rs);
  address = λ rs s. Some (address (object_size rs) (stride rs) (object_offset rs) s);
}

abbrev pub values : StrideRegisters → List ℕ
values r = r.common.image_size.value ∷ r.common.table_page.value ∷ r.object_size.value ∷ r.stride.value ∷ r.object_offset.value ∷ []
