-- Runs of whole grains. Assumes nothing.
-- Whole whole g s n: if whole, the n bytes from s on are whole grains of g bytes
use Rattle.std.specs.Prelude.{◌≡◌, ℕ, ◌%◌, Bool, true}

abbrev pub Whole : Bool → ℕ → ℕ → ℕ → Type 0
Whole whole g s n = whole ≡ true → (s % g ≡ 0) × (n % g ≡ 0)
