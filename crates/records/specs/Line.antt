-- The prices of a dense line, four bytes each. Assumes nothing.
-- line_price line k: the price k that the bytes of the line say
-- price_at line k: the price k of a line of 32, or nothing past the last
-- line_total line: the total of all 32
use Rattle.std.specs.Prelude.{ℕ, ◌*◌, cond, List, sum_by, Some, None, Option, nat_lt}
use Rattle.std.specs.List.{range_with_len}
use Rattle.units.specs.Word.{word_at}

abbrev pub line_price : List ℕ → ℕ → ℕ
line_price line k = word_at line (k * 4)

abbrev pub price_at : List ℕ → ℕ → Option ℕ
price_at line k = cond (nat_lt k 32) (Some (line_price line k)) None

unfoldable pub line_total : List ℕ → ℕ
line_total line = sum_by (line_price line) (range_with_len 0 32)
