-- Bytes that are no cell of a checked memory over them, and no check byte. Assumes nothing.
-- RestKept xs ys: ys is as long as xs, and has the same bytes after the memory's last line
use Rattle.std.specs.Prelude.{◌≡◌, ℕ, ◌*◌, ◌/◌, ◌≤◌, List, length, slice_index}
use Rattle.checked.specs.Checked.{checked_meaning}

pub record RestKept (xs ys : List ℕ) : Type 0 where
  pub long : length ys ≡ length xs
  pub same : (i : ℕ) → (checked_meaning xs).size / 128 * 129 ≤ i → slice_index ys i ≡ slice_index xs i
