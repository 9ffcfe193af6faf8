-- Registers 0 and 1, which every mapping has. Assumes nothing.
-- common_widths: how many bits they have
-- common_values r: their values
use Rattle.std.specs.Prelude.{ℕ, List, [], ◌∷◌}
use Rattle.mapping.specs.declared.common.CommonRegisters.{CommonRegisters}

abbrev pub common_widths : List ℕ
common_widths = 32 ∷ 28 ∷ []

abbrev pub common_values : CommonRegisters → List ℕ
common_values r = r.image_size.value ∷ r.table_page.value ∷ []
