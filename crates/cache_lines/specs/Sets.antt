-- What is done to one line, in its set. Assumes nothing.
-- one_changed n f s: the sets s with f done to the lines of the set of the line n
-- line_kept x s: s with the line x, which pushes out the line that was kept longest of a full set
-- line_dropped n s: s without the line n
-- line_hit n s: s after a hit of the line n
use Rattle.std.specs.Prelude.{ℕ, ◌%◌, cond, ◌==◌, List, ◌∷◌, take}
use Rattle.cache_lines.specs.declared.line.CacheLine.{CacheLine}
use Rattle.cache_lines.specs.Lines.{without, after_hit}

abbrev pub one_changed : ℕ → (List CacheLine → List CacheLine) → (ℕ → List CacheLine) → ℕ → List CacheLine
one_changed n f s k = cond (k == n % 8) (f (s k)) (s k)

-- a set has two ways, and keeping alone gives a line its age
unfoldable pub line_kept : CacheLine → (ℕ → List CacheLine) → ℕ → List CacheLine
line_kept x s = one_changed x.number (λ xs. take 2 (x ∷ xs)) s

unfoldable pub line_dropped : ℕ → (ℕ → List CacheLine) → ℕ → List CacheLine
line_dropped n s = one_changed n (without n) s

unfoldable pub line_hit : ℕ → (ℕ → List CacheLine) → ℕ → List CacheLine
line_hit n s = one_changed n (after_hit n) s
