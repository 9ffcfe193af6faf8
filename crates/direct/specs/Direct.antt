-- Direct: the image is the data, byte by byte. Assumes nothing.
-- I is the image size; s is a window address.
-- address s: the place of s
-- extent I: the end of the last byte
-- direct_rules: all of this as the rules of a mapping
-- values r: what the registers hold, by their numbers
use Rattle.std.specs.Prelude.{ℕ, true, List, [], ◌∷◌, Some}
use Rattle.mapping.specs.Rules.{Rules, image_size}
use Rattle.direct.specs.declared.direct.DirectRegisters.{DirectRegisters}

abbrev pub address : ℕ → ℕ
address s = s

abbrev pub extent : ℕ → ℕ
extent I = I

abbrev pub direct_rules : Rules
direct_rules = record {
  type_number = 1;
  widths = 32 ∷ 28 ∷ [];
  condition = λ rs. true;
  grain = λ rs. 128;
  extent = λ rs. extent (image_size rs);
  address = λ rs s. Some (address s);
}

abbrev pub values : DirectRegisters → List ℕ
values r = r.common.image_size.value ∷ r.common.table_page.value ∷ []
