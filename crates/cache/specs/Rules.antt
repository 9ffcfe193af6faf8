-- The rules of a cache, over the lines that it holds. Assumes nothing.
-- whole_line m n: whether the memory m accepts a read of the whole line n; it refuses one past its end
-- line_of m n prefetched: the line n of m, as it is kept
-- fetched m n prefetched: the same, if m accepts it
-- prefetch_keeps m n s: whether a prefetch keeps the line n, where s is held
-- after_prefetch m n s: what is held then
-- miss_keeps m n s: whether a miss of the line n prefetches the next one
-- after_miss m n s: what is held after the miss
-- first_hit n s: whether a hit of the line n is the first of a prefetched one; nothing where the line is not held
-- CacheState: what a cache has of its own
-- empty_cache: nothing is held, and nothing counted
-- line_read m n f o: a cache that was o after a read of the line n, by what first_hit says
-- after_read m a n o, after_write m a n o: the same after a read and after a write of n bytes at a
-- cache_called m c o: after the call c
-- QuietHit m c s: the call c is a read of a line that is held in s and was not prefetched, or was hit before
use Rattle.std.specs.Prelude.{◌≡◌, ℕ, ◌+◌, ◌*◌, ◌/◌, Bool, true, false, cond, not, ◌&&◌, List, length, is_some, is_ok, Some, None, Option}
use Rattle.std.specs.Option.{option_map}
use Rattle.memory.specs.Meaning.{Meaning}
use Rattle.memory.specs.Run.{check_run}
use Rattle.memory.specs.Reach.{Call, reading, writing}
use Rattle.memory.specs.Calls.{read_answer, write_answer, bytes}
use Rattle.cache_lines.specs.declared.line.CacheLine.{CacheLine}
use Rattle.cache_lines.specs.Lines.{no_lines, held_line}
use Rattle.cache_lines.specs.Sets.{line_kept, line_dropped, line_hit}
use Rattle.cache.specs.declared.counts.CacheCounts.{CacheCounts}
use Rattle.cache.specs.Counts.{no_counts, counted}

abbrev pub whole_line : Meaning → ℕ → Bool
whole_line m n = is_ok (read_answer m (n * 128) 128)

abbrev pub line_of : Meaning → ℕ → Bool → CacheLine
line_of m n prefetched = record { number = n; prefetched = prefetched; bytes = bytes m.cell (n * 128) 128 }

abbrev pub fetched : Meaning → ℕ → Bool → Option CacheLine
fetched m n prefetched = cond (whole_line m n) (Some (line_of m n prefetched)) None

-- a prefetch keeps the line unless it is held, or refuses; past the end it refuses
abbrev pub prefetch_keeps : Meaning → ℕ → (ℕ → List CacheLine) → Bool
prefetch_keeps m n s = not (is_some (held_line n s)) && whole_line m n

abbrev pub after_prefetch : Meaning → ℕ → (ℕ → List CacheLine) → ℕ → List CacheLine
after_prefetch m n s = cond (prefetch_keeps m n s) (line_kept (line_of m n true) s) s

-- a miss keeps the line and prefetches the next; if the line as a whole refuses, nothing is kept or prefetched
abbrev pub miss_keeps : Meaning → ℕ → (ℕ → List CacheLine) → Bool
miss_keeps m n s = whole_line m n && prefetch_keeps m (n + 1) (line_kept (line_of m n false) s)

abbrev pub after_miss : Meaning → ℕ → (ℕ → List CacheLine) → ℕ → List CacheLine
after_miss m n s = cond (whole_line m n) (after_prefetch m (n + 1) (line_kept (line_of m n false) s)) s

abbrev pub first_hit : ℕ → (ℕ → List CacheLine) → Option Bool
first_hit n s = option_map (λ x. x.prefetched) (held_line n s)

pub record CacheState : Type 0 where
  pub sets : ℕ → List CacheLine
  pub counts : CacheCounts

abbrev pub empty_cache : CacheState
empty_cache = record { sets = no_lines; counts = no_counts }

-- the first hit of a prefetched line prefetches the next one; any other hit prefetches nothing
abbrev pub line_read : Meaning → ℕ → Option Bool → CacheState → CacheState
line_read m n (Some first) o = record {
  sets = cond first (after_prefetch m (n + 1) (line_hit n o.sets)) (line_hit n o.sets);
  counts = counted true (first && prefetch_keeps m (n + 1) (line_hit n o.sets)) o.counts;
}
line_read m n None o = record { sets = after_miss m n o.sets; counts = counted false (miss_keeps m n o.sets) o.counts }

-- past causes 1 and 2 a read counts
unfoldable pub after_read : Meaning → ℕ → ℕ → CacheState → CacheState
after_read m a n o = cond (is_ok (check_run m.size a n)) (line_read m (a / 128) (first_hit (a / 128) o.sets) o) o

-- an accepted write drops its line
unfoldable pub after_write : Meaning → ℕ → ℕ → CacheState → CacheState
after_write m a n o = cond (is_ok (write_answer m a n)) (record { sets = line_dropped (a / 128) o.sets; counts = o.counts }) o

abbrev pub cache_called : Meaning → Call → CacheState → CacheState
cache_called m (reading a b) o = after_read m a (length b) o
cache_called m (writing a bs) o = after_write m a (length bs) o

abbrev pub QuietHit : Meaning → Call → (ℕ → List CacheLine) → Type 0
QuietHit m (reading a b) s = (is_ok (check_run m.size a (length b)) ≡ true) × (first_hit (a / 128) s ≡ Some false)
QuietHit m (writing a bs) s = ⊥
