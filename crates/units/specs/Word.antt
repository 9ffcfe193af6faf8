-- A word: a number of 32 bits as four bytes, most significant first. Assumes nothing.
-- word_bytes n: the four bytes of the number n
-- word_at bs a: the number that the four bytes from a on say
use Rattle.std.specs.Prelude.{ℕ, ◌+◌, ◌*◌, ◌/◌, ◌%◌, List, [], ◌∷◌, slice_index}

abbrev pub word_bytes : ℕ → List ℕ
word_bytes n = n / 16777216 % 256 ∷ n / 65536 % 256 ∷ n / 256 % 256 ∷ n % 256 ∷ []

abbrev pub word_at : List ℕ → ℕ → ℕ
word_at bs a = slice_index bs a * 16777216 + slice_index bs (a + 1) * 65536 + slice_index bs (a + 2) * 256 + slice_index bs (a + 3)
