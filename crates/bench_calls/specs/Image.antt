-- The window that the benchmark opens, by the values of its registers. Assumes nothing.
-- offered ws os: the registers, of the widths ws, once the five values os were offered to registers that are 0
-- image rules os m n: the meaning of the window by these values over the memory m, opened with a board of n bytes, or nothing where
-- the registers do not arm
-- image_over rules os r n: the same over the memory r, which may be nothing
-- board_after w b: the board that held b, where w is the window that was opened with it, or nothing
use Rattle.std.specs.Prelude.{ℕ, cond, List, length, replicate, Some, None, Option, is_ok, slice_index}
use Rattle.std.specs.Option.{option_map}
use Rattle.memory.specs.Meaning.{Meaning}
use Rattle.mapping.specs.Registers.{cleared, registers_after}
use Rattle.mapping.specs.Rules.{Rules, Layout, layout_of}
use Rattle.mapping.specs.Arming.{arms}
use Rattle.page_table.specs.Table.{table_of}
use Rattle.page_table.specs.Walk.{shown}
use Rattle.opening.specs.Opening.{check_opening}

abbrev pub offered : List ℕ → List ℕ → List ℕ
offered ws os =
    registers_after ws (registers_after ws (registers_after ws (registers_after ws (registers_after ws (cleared ws)
    0 (slice_index os 0)) 1 (slice_index os 1)) 2 (slice_index os 2)) 3 (slice_index os 3)) 4 (slice_index os 4)

abbrev pub armed_values : Rules → List ℕ → Option (List ℕ)
armed_values rules rs = cond (arms rules rs) (Some rs) None

abbrev pub seen : Layout → Meaning → ℕ → Meaning
seen l m n = shown (is_ok (check_opening (table_of l) m n)) l m

abbrev pub image : Rules → List ℕ → Meaning → ℕ → Option Meaning
image rules os m n = option_map (λ rs. seen (layout_of rules rs) m n) (armed_values rules (offered rules.widths os))

abbrev pub image_over : Rules → List ℕ → Option Meaning → ℕ → Option Meaning
image_over rules os (Some m) n = image rules os m n
image_over rules os None n = None

-- an opening clears it, whatever it answers
abbrev pub board_after : Option Meaning → List ℕ → List ℕ
board_after (Some w) b = replicate (length b) 0
board_after None b = b
