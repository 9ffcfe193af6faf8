-- The lines of a set, the one kept last first; and all sets, by their number. Assumes nothing.
-- lines_of p: the lines of the set p
-- lines_in ps k, sets_of s k: the lines of the set k among the sets ps, and in s
-- no_lines: nothing is held
-- is_line w n: whether the way w holds the line n
-- found_in w n, find n xs: the line n, if the way w holds it, and if it is among the lines xs
-- held_line n s: the line n, if it is held in its set
-- hit_once x: the line x once it was hit
-- hit_in w n, after_hit n xs: the way w and the lines xs after a hit of the line n
-- dropped_in w n, without n xs: both without the line n
-- copied_from o at b: what a buffer b holds after a copy of the bytes of the line o from the byte at on
use Rattle.std.specs.Prelude.{ℕ, ◌%◌, Bool, false, cond, ◌==◌, List, [], ◌∷◌, ◌++◌, length, take, drop, slice_index_or, Some, None, Option}
use Rattle.cache_lines.specs.declared.line.CacheLine.{CacheLine}
use Rattle.cache_lines.specs.declared.ways.CacheSet.{CacheSet}
use Rattle.cache_lines.specs.declared.sets.CacheSets.{CacheSets}

abbrev pub listed : Option CacheLine → List CacheLine
listed None = []
listed (Some x) = x ∷ []

abbrev pub lines_of : CacheSet → List CacheLine
lines_of p = listed p.newer ++ listed p.older

abbrev pub lines_in : List CacheSet → ℕ → List CacheLine
lines_in ps k = lines_of (slice_index_or ps k (record { newer = None; older = None }))

abbrev pub sets_of : CacheSets → ℕ → List CacheLine
sets_of s = lines_in s.sets

abbrev pub no_lines : ℕ → List CacheLine
no_lines k = []

abbrev pub is_line : Option CacheLine → ℕ → Bool
is_line None n = false
is_line (Some x) n = x.number == n

abbrev pub found_in : Option CacheLine → ℕ → Option CacheLine
found_in None n = None
found_in (Some x) n = cond (x.number == n) (Some x) None

unfoldable pub find : ℕ → List CacheLine → Option CacheLine
find n [] = None
find n (x ∷ xs) = cond (x.number == n) (Some x) (find n xs)

-- line L goes to set L mod 8
abbrev pub held_line : ℕ → (ℕ → List CacheLine) → Option CacheLine
held_line n s = find n (s (n % 8))

-- a line that was hit counts no longer as prefetched
abbrev pub hit_once : CacheLine → CacheLine
hit_once x = record { number = x.number; prefetched = false; bytes = x.bytes }

abbrev pub hit_in : Option CacheLine → ℕ → Option CacheLine
hit_in None n = None
hit_in (Some x) n = Some (cond (x.number == n) (hit_once x) x)

unfoldable pub after_hit : ℕ → List CacheLine → List CacheLine
after_hit n [] = []
after_hit n (x ∷ xs) = cond (x.number == n) (hit_once x ∷ xs) (x ∷ after_hit n xs)

abbrev pub dropped_in : Option CacheLine → ℕ → Option CacheLine
dropped_in o n = cond (is_line o n) None o

unfoldable pub without : ℕ → List CacheLine → List CacheLine
without n [] = []
without n (x ∷ xs) = cond (x.number == n) (without n xs) (x ∷ without n xs)

abbrev pub copied_from : Option CacheLine → ℕ → List ℕ → List ℕ
copied_from None at b = b
copied_from (Some x) at b = take (length b) (drop at x.bytes)
