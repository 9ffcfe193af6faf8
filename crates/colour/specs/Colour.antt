-- Page colour: the data is spread over the image so that it meets one part, a colour, of each way of a cache. Assumes nothing.
-- I is the image size, W the way size, C the colour size, F the offset of the colour in a way; s is a window address.
-- address W C F s: the place of s, where it stands inside the colour
-- extent I W C: the end of the last way's colour
-- condition I W C F: the colour stands inside a way, and whole ways fill the image
-- way_size rs, colour_size rs, colour_offset rs: the mapping's own registers, 2 to 4
-- colour_rules: all of this as the rules of a mapping
-- values r: what the registers hold, by their numbers
use Rattle.std.specs.Prelude.{ℕ, ◌+◌, ◌-◌, ◌*◌, ◌/◌, ◌%◌, Bool, cond, ◌&&◌, List, [], ◌∷◌, Some, None, Option, nat_le, nat_lt, slice_index}
use Rattle.mapping.specs.Rules.{Rules, image_size, divides}
use Rattle.units.specs.Power.{is_power_of_two}
use Rattle.colour.specs.declared.colour.ColourRegisters.{ColourRegisters}

abbrev pub address : (W C F s : ℕ) → Option ℕ
address W C F s = cond (nat_le F (s % W) && nat_lt (s % W) (F + C)) (Some (s / W * C + s % W - F)) None

abbrev pub extent : (I W C : ℕ) → ℕ
extent I W C = I / W * C

abbrev pub condition : (I W C F : ℕ) → Bool
condition I W C F = is_power_of_two W && nat_le 4096 W && is_power_of_two C && nat_le 4096 C && divides 4096 F && nat_le (F + C) W && divides W I

abbrev pub way_size : List ℕ → ℕ
way_size rs = slice_index rs 2

abbrev pub colour_size : List ℕ → ℕ
colour_size rs = slice_index rs 3

abbrev pub colour_offset : List ℕ → ℕ
colour_offset rs = slice_index rs 4

abbrev pub colour_rules : Rules
colour_rules = record {
  type_number = 2;
  widths = 32 ∷ 28 ∷ 32 ∷ 32 ∷ 32 ∷ [];
  condition = λ rs. condition (image_size rs) (way_size rs) (colour_size rs) (colour_offset rs);
  grain = λ rs. 128;
  extent = λ rs. extent (image_size rs) (way_size rs) (colour_size rs);
  address = λ rs s. address (way_size rs) (colour_size rs) (colour_offset rs) s;
}

abbrev pub values : ColourRegisters → List ℕ
values r = r.common.image_size.value ∷ r.common.table_page.value ∷ r.way_size.value ∷ r.colour_size.value ∷ r.colour_offset.value ∷ []
