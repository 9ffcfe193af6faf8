-- What holds of every cache, and what a call does to one, by its parts. Assumes nothing.
-- Copy m n x: the line x is the line n of the memory m, which accepts a read of the whole line
-- Mirrored m s: each line that is held in s is one of m
-- Standing C m s k: C says that the memory below is coherent; each held line mirrors it; and the counts k are steady
-- Called Reach Same m n o p c: what the call c leaves: Reach says that calls led the memory below from m to n, and Same that it is the
-- very value that it was; the memory below becomes what the call makes of it, and what the cache has of its own becomes p from o
use Rattle.std.specs.Prelude.{◌≡◌, ℕ, ◌*◌, true, List, Some}
use Rattle.memory.specs.Meaning.{Meaning}
use Rattle.memory.specs.Reach.{Call, cells_after}
use Rattle.memory.specs.Calls.{bytes}
use Rattle.cache_lines.specs.declared.line.CacheLine.{CacheLine}
use Rattle.cache_lines.specs.Lines.{held_line}
use Rattle.cache.specs.declared.counts.CacheCounts.{CacheCounts}
use Rattle.cache.specs.Counts.{Steady}
use Rattle.cache.specs.Rules.{whole_line, CacheState, cache_called, QuietHit}

pub record Copy (m : Meaning) (n : ℕ) (x : CacheLine) : Type 0 where
  pub accepted : whole_line m n ≡ true
  pub same : x.bytes ≡ bytes m.cell (n * 128) 128

abbrev pub Mirrored : Meaning → (ℕ → List CacheLine) → Type 0
Mirrored m s = (n : ℕ) (x : CacheLine) → held_line n s ≡ Some x → Copy m n x

pub record Standing (C : Type 0) (m : Meaning) (s : ℕ → List CacheLine) (k : CacheCounts) : Type 0 where
  pub below : C
  pub mirrored : Mirrored m s
  pub steady : Steady k

pub record Called (Reach Same : Type 0) (m n : Meaning) (o p : CacheState) (c : Call) : Type 0 where
  pub state : p ≡ cache_called m c o
  pub below : n ≡ cells_after m c
  pub reached : Reach
  pub quiet : QuietHit m c o.sets → Same
