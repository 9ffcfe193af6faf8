-- Powers of two. Assumes nothing.
-- is_power_of_two n: whether n has one bit set
-- PowerOfTwo n: n is 2 ^ k for some k
use Rattle.std.specs.Prelude.{◌≡◌, ℕ, ◌^◌, Bool, ◌==◌, count_ones}

abbrev pub is_power_of_two : ℕ → Bool
is_power_of_two n = count_ones n == 1

abbrev pub PowerOfTwo : ℕ → Type 0
PowerOfTwo n = (k : ℕ) × (n ≡ 2 ^ k)
