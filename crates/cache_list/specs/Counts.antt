-- What a cache counts over a list of calls. Assumes nothing.
-- is_read size c: the call c is a read past causes 1 and 2, by the size
-- is_hit x c: the call c, made on x, is such a read of a line that is held
-- is_prefetch x c: a prefetch keeps a line at the call
-- how_many f x cs: how many of the calls cs, which are made on x one after the other, f is true of
-- CountLaw x cs: the counts after the first calls and after all
-- SortLaw x cs: which calls are hits, and which prefetch, by the lines that are held
use Rattle.std.specs.Prelude.{◌≡◌, ℕ, ◌+◌, ◌/◌, ◌^◌, ◌≤◌, min, Bool, false, ◌&&◌, Decides, List, [], ◌∷◌, length, take, slice_get, is_some, is_ok, Some, None, Option}
use Rattle.std.specs.List.{count_by}
use Rattle.memory.specs.Meaning.{Meaning}
use Rattle.memory.specs.Run.{check_run}
use Rattle.memory.specs.Reach.{Call, reading, writing}
use Rattle.cache_lines.specs.declared.line.CacheLine.{CacheLine}
use Rattle.cache_lines.specs.Lines.{held_line}
use Rattle.cache_lines.specs.Sets.{line_hit}
use Rattle.cache.specs.declared.counts.CacheCounts.{CacheCounts}
use Rattle.cache.specs.Counts.{one_if}
use Rattle.cache.specs.Rules.{prefetch_keeps, miss_keeps, first_hit}
use Rattle.cache_list.specs.Behind.{Behind, call_behind, behind_after}
use Rattle.cache_list.specs.Held.{ReadOf, Prefetches, HeldSince}

abbrev pub is_read : ℕ → Call → Bool
is_read size (reading a b) = is_ok (check_run size a (length b))
is_read size (writing a bs) = false

abbrev pub is_hit : Behind → Call → Bool
is_hit x (reading a b) = is_read x.cells.size (reading a b) && is_some (held_line (a / 128) x.state.sets)
is_hit x (writing a bs) = false

-- by a hit, which is the first of a prefetched line or not, or by a miss
abbrev pub next_kept : Meaning → ℕ → (ℕ → List CacheLine) → Option Bool → Bool
next_kept m n s (Some first) = first && prefetch_keeps m (n + 1) (line_hit n s)
next_kept m n s None = miss_keeps m n s

abbrev pub is_prefetch : Behind → Call → Bool
is_prefetch x (reading a b) = is_read x.cells.size (reading a b) && next_kept x.cells (a / 128) x.state.sets (first_hit (a / 128) x.state.sets)
is_prefetch x (writing a bs) = false

unfoldable pub how_many : (Behind → Call → Bool) → Behind → List Call → ℕ
how_many f x [] = 0
how_many f x (c ∷ cs) = one_if (f x c) + how_many f (call_behind x c) cs

abbrev pub counts_after : Behind → List Call → CacheCounts
counts_after x cs = (behind_after x cs).state.counts

-- which reads there are the size tells; the counts run until 2^48 reads are counted, and then stand still
pub record CountLaw (x : Behind) (cs : List Call) : Type 0 where
  pub reads : (k : ℕ) → k ≤ length cs → (counts_after x (take k cs)).reads ≡ min (x.state.counts.reads + count_by (is_read x.cells.size) (take k cs)) (2 ^ 48)
  pub hits : (k : ℕ) → k ≤ length cs → x.state.counts.reads + count_by (is_read x.cells.size) (take k cs) ≤ 2 ^ 48
      → (counts_after x (take k cs)).hits ≡ x.state.counts.hits + how_many is_hit x (take k cs)
  pub prefetches : (k : ℕ) → k ≤ length cs → x.state.counts.reads + count_by (is_read x.cells.size) (take k cs) ≤ 2 ^ 48
      → (counts_after x (take k cs)).prefetches ≡ x.state.counts.prefetches + how_many is_prefetch x (take k cs)
  pub still : (k : ℕ) → k ≤ length cs → 2 ^ 48 ≤ x.state.counts.reads + count_by (is_read x.cells.size) (take k cs)
      → counts_after x cs ≡ counts_after x (take k cs)

-- a hit is a read of a line that a call kept, or that was held at the start, and that has not left since
pub record SortLaw (x : Behind) (cs : List Call) : Type 0 where
  pub hits : (k : ℕ) (c : Call) → slice_get cs k ≡ Some c → Decides (is_hit (behind_after x (take k cs)) c) ((n : ℕ) × ReadOf n x c × HeldSince n x cs k)
  pub prefetches : (k : ℕ) (c : Call) → slice_get cs k ≡ Some c → Decides (is_prefetch (behind_after x (take k cs)) c) ((n : ℕ) × Prefetches n (behind_after x (take k cs)) c)
