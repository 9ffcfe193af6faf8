-- What a cache counts over a list of calls. Assumes nothing.
use Rattle.std.proofs.Common.{◌≡◌, ℕ, zero, suc, ◌+◌, ◌/◌, ◌^◌, ◌<◌, ◌≤◌, min, ◌⊎◌, Bool, true, false, cond, ◌&&◌, List, [], ◌∷◌, length, take, drop, is_ok, is_some, Some, None, Option, sym, refl, ap, ◌∙◌, inl, inr, ⊎_elim, subst, arith}
use Rattle.std.specs.Prelude.{Decides}
use Rattle.std.specs.List.{count_by}
use Rattle.std.specs.Option.{option_map}
use Rattle.std.proofs.lemmas.Bool.{cases_lt, cond-true, cond-false, lt-ltb, le-ltb, both_ways, and_parts, and_from, and_left}
use Rattle.std.proofs.lemmas.List.Sums.{sum_by-cons}
use Rattle.std.proofs.lemmas.Option.{slice_get_within}
use Rattle.memory.specs.Meaning.{Meaning}
use Rattle.memory.specs.Run.{check_run}
use Rattle.memory.specs.Reach.{Call, reading, writing, after_calls, cells_after}
use Rattle.memory.specs.Calls.{write_answer, stored}
use Rattle.memory.proofs.Writes.{same_size}
use Rattle.cache_lines.specs.declared.line.CacheLine.{CacheLine}
use Rattle.cache_lines.specs.Lines.{held_line}
use Rattle.cache_lines.specs.Sets.{line_dropped}
use Rattle.cache.specs.declared.counts.CacheCounts.{CacheCounts}
use Rattle.cache.specs.Counts.{one_if, counted}
use Rattle.cache.specs.Rules.{first_hit, line_read, after_read, after_write}
use Rattle.cache.proofs.Copies.{ok_is}
use Rattle.cache_list.specs.Behind.{Behind, call_behind, behind_after}
use Rattle.cache_list.specs.Counts.{is_read, is_hit, is_prefetch, next_kept, how_many, counts_after, CountLaw, SortLaw}
use Rattle.cache_list.specs.Held.{ReadOf, Held, Prefetches, HeldLaw}
use Rattle.cache_list.proofs.Sets.{next_made}

-- no call changes the size
size_once : (m : Meaning) (c : Call) → (cells_after m c).size ≡ m.size
size_once m (reading a b) = refl
size_once m (writing a bs) = by (is_ok (write_answer m a (length bs))) where
  by : (t : Bool) → (cond t (stored m a bs) m).size ≡ m.size
  by true = same_size m a bs
  by false = refl

size_after : (x : Behind) (cs : List Call) → (behind_after x cs).cells.size ≡ x.cells.size
unfolding after_calls
size_after x [] = refl
size_after x (c ∷ cs) = size_after (call_behind x c) cs ∙ size_once x.cells c

-- the counts after one call, which was a read or not, a hit or not, and at which a prefetch kept a line or not
abbrev tally : Bool → Bool → Bool → CacheCounts → CacheCounts
tally read hit kept k = cond read (counted hit kept k) k

tally_once : (x : Behind) (c : Call) → (call_behind x c).state.counts ≡ tally (is_read x.cells.size c) (is_hit x c) (is_prefetch x c) x.state.counts
unfolding after_read after_write
tally_once x (reading a b) = by (is_ok (check_run x.cells.size a (length b))) where
  p : ℕ
  p = a / 128

  Held_line : Option CacheLine → Type 0
  Held_line h = (line_read x.cells p (option_map (λ y. y.prefetched) h) x.state).counts ≡ counted (is_some h) (next_kept x.cells p x.state.sets (option_map (λ y. y.prefetched) h)) x.state.counts

  read : (h : Option CacheLine) → Held_line h
  read None = refl
  read (Some y) = refl

  by : (t : Bool) → (cond t (line_read x.cells p (first_hit p x.state.sets) x.state) x.state).counts ≡ tally t (t && is_some (held_line p x.state.sets)) (t && next_kept x.cells p x.state.sets (first_hit p x.state.sets)) x.state.counts
  by true = read (held_line p x.state.sets)
  by false = refl
tally_once x (writing a bs) = by (is_ok (write_answer x.cells a (length bs))) where
  by : (t : Bool) → (cond t (record { sets = line_dropped (a / 128) x.state.sets; counts = x.state.counts }) x.state).counts ≡ x.state.counts
  by true = refl
  by false = refl

-- until the most reads are counted, and from then on
module _ (hit kept : Bool) (k : CacheCounts) where
  runs : (read : Bool) → k.reads + one_if read ≤ 2 ^ 48 → tally read hit kept k ≡ cond read (record { reads = k.reads + 1; hits = k.hits + one_if hit; prefetches = k.prefetches + one_if kept }) k
  runs true low = cond-true _ _ _ (lt-ltb k.reads (2 ^ 48) (omega (arith, low)))
  runs false low = refl

  stands : (read : Bool) → 2 ^ 48 ≤ k.reads → tally read hit kept k ≡ k
  stands true high = cond-false _ _ _ (le-ltb k.reads (2 ^ 48) high)
  stands false high = refl

  tally_reads : (read : Bool) → k.reads ≤ 2 ^ 48 → (tally read hit kept k).reads ≡ min (k.reads + one_if read) (2 ^ 48)
  tally_reads true most = ⊎_elim
      (λ low. ap (λ z. z.reads) (runs true low) ∙ omega (arith, low))
      (λ high. ap (λ z. z.reads) (stands true (omega (arith, high))) ∙ omega (arith, most, high))
      (cases_le (k.reads + 1) (2 ^ 48)) where
        cases_le : (a b : ℕ) → (a ≤ b) ⊎ (b < a)
        cases_le a b = ⊎_elim inr inl (cases_lt b a)
  tally_reads false most = omega (arith, most)

-- one call, and the others
module _ (x : Behind) (c : Call) (cs : List Call) where
  reads_more : count_by (is_read x.cells.size) (c ∷ cs) ≡ one_if (is_read x.cells.size c) + count_by (is_read (call_behind x c).cells.size) cs
  reads_more =
      sum_by-cons (λ d. cond (is_read x.cells.size d) 1 0) c cs
      ∙ sym (ap (λ z. one_if (is_read x.cells.size c) + count_by (is_read z) cs) (size_once x.cells c))

  reads_once : x.state.counts.reads ≤ 2 ^ 48 → (call_behind x c).state.counts.reads ≡ min (x.state.counts.reads + one_if (is_read x.cells.size c)) (2 ^ 48)
  reads_once most = ap (λ k. k.reads) (tally_once x c) ∙ tally_reads (is_hit x c) (is_prefetch x c) x.state.counts (is_read x.cells.size c) most

  most_once : x.state.counts.reads ≤ 2 ^ 48 → (call_behind x c).state.counts.reads ≤ 2 ^ 48
  most_once most = omega (arith, reads_once most)

reads_after : (x : Behind) (cs : List Call) → x.state.counts.reads ≤ 2 ^ 48 → (counts_after x cs).reads ≡ min (x.state.counts.reads + count_by (is_read x.cells.size) cs) (2 ^ 48)
unfolding after_calls
reads_after x [] most = omega (arith, most)
reads_after x (c ∷ cs) most = reads_after (call_behind x c) cs (most_once x c cs most) ∙ omega (arith, reads_once x c cs most, reads_more x c cs)

still_after : (x : Behind) (cs : List Call) → 2 ^ 48 ≤ x.state.counts.reads → counts_after x cs ≡ x.state.counts
unfolding after_calls
still_after x [] high = refl
still_after x (c ∷ cs) high =
    let one : (call_behind x c).state.counts ≡ x.state.counts = tally_once x c ∙ stands (is_hit x c) (is_prefetch x c) x.state.counts (is_read x.cells.size c) high in
    still_after (call_behind x c) cs (omega (arith, high, ap (λ k. k.reads) one)) ∙ one

-- a count that grows by the calls of one sort
module _ (count : CacheCounts → ℕ) (f : Behind → Call → Bool) (once : (x : Behind) (c : Call) → x.state.counts.reads + one_if (is_read x.cells.size c) ≤ 2 ^ 48 → count (call_behind x c).state.counts ≡ count x.state.counts + one_if (f x c)) where
  count_after : (x : Behind) (cs : List Call) → x.state.counts.reads + count_by (is_read x.cells.size) cs ≤ 2 ^ 48 → count (counts_after x cs) ≡ count x.state.counts + how_many f x cs
  unfolding after_calls how_many
  count_after x [] low = omega arith
  count_after x (c ∷ cs) low =
      let more = reads_more x c cs in
      let reads = reads_once x c cs (omega (arith, low)) in
      count_after (call_behind x c) cs (omega (arith, low, more, reads))
      ∙ omega (arith, once x c (omega (arith, low, more)))

-- only a read is a hit, and only at a read a prefetch keeps a line
no_hit : (x : Behind) (c : Call) → is_read x.cells.size c ≡ false → is_hit x c ≡ false
no_hit x (reading a b) none = and_left _ _ none
no_hit x (writing a bs) none = refl

no_prefetch : (x : Behind) (c : Call) → is_read x.cells.size c ≡ false → is_prefetch x c ≡ false
no_prefetch x (reading a b) none = and_left _ _ none
no_prefetch x (writing a bs) none = refl

module _ (hit kept : Bool) (k : CacheCounts) where
  tally_hits : (read : Bool) → k.reads + one_if read ≤ 2 ^ 48 → (read ≡ false → hit ≡ false) → (tally read hit kept k).hits ≡ k.hits + one_if hit
  tally_hits true low none = ap (λ z. z.hits) (runs hit kept k true low)
  tally_hits false low none = omega (arith, ap one_if (none refl))

  tally_prefetches : (read : Bool) → k.reads + one_if read ≤ 2 ^ 48 → (read ≡ false → kept ≡ false) → (tally read hit kept k).prefetches ≡ k.prefetches + one_if kept
  tally_prefetches true low none = ap (λ z. z.prefetches) (runs hit kept k true low)
  tally_prefetches false low none = omega (arith, ap one_if (none refl))

hits_after : (x : Behind) (cs : List Call) → x.state.counts.reads + count_by (is_read x.cells.size) cs ≤ 2 ^ 48 → (counts_after x cs).hits ≡ x.state.counts.hits + how_many is_hit x cs
hits_after = count_after (λ k. k.hits) is_hit
    (λ x c low. ap (λ k. k.hits) (tally_once x c) ∙ tally_hits (is_hit x c) (is_prefetch x c) x.state.counts (is_read x.cells.size c) low (no_hit x c))

prefetches_after : (x : Behind) (cs : List Call) → x.state.counts.reads + count_by (is_read x.cells.size) cs ≤ 2 ^ 48 → (counts_after x cs).prefetches ≡ x.state.counts.prefetches + how_many is_prefetch x cs
prefetches_after = count_after (λ k. k.prefetches) is_prefetch
    (λ x c low. ap (λ k. k.prefetches) (tally_once x c) ∙ tally_prefetches (is_hit x c) (is_prefetch x c) x.state.counts (is_read x.cells.size c) low (no_prefetch x c))

in_two : (x : Behind) (cs : List Call) (k : ℕ) → behind_after x cs ≡ behind_after (behind_after x (take k cs)) (drop k cs)
unfolding after_calls
in_two x cs zero = refl
in_two x [] (suc k) = refl
in_two x (c ∷ cs) (suc k) = in_two (call_behind x c) cs k

pub count_law : (x : Behind) (cs : List Call) → x.state.counts.reads ≤ 2 ^ 48 → CountLaw x cs
count_law x cs most = record {
  reads = λ k low. reads_after x (take k cs) most;
  hits = λ k low few. hits_after x (take k cs) few;
  prefetches = λ k low few. prefetches_after x (take k cs) few;
  still = λ k low many. ap (λ y. y.state.counts) (in_two x cs k) ∙ still_after (behind_after x (take k cs)) (drop k cs) (omega (arith, many, reads_after x (take k cs) most));
}

-- a hit and a prefetch, by what stands before the call
is_hit_held : (x : Behind) (c : Call) → Decides (is_hit x c) ((n : ℕ) × ReadOf n x c × Held n x)
is_hit_held x (reading a b) = (
  λ e. let both = and_parts _ _ e in (a / 128, (ok_is _ both.0, refl), both.1),
  λ w. and_from _ _ (ap is_ok w.1.0) (subst (λ i. Held i x) (sym w.1.1) w.2),
)
is_hit_held x (writing a bs) = (λ e. absurd (both_ways false refl e), λ w. absurd w.1)

is_prefetch_made : (x : Behind) (c : Call) → Decides (is_prefetch x c) ((n : ℕ) × Prefetches n x c)
is_prefetch_made x (reading a b) = (
  λ e. let both = and_parts _ _ e in (next_made x a b (ok_is _ both.0)).0 both.1,
  λ w. and_from _ _ (ap is_ok w.1.read.0) ((next_made x a b w.1.read.0).1 w),
)
is_prefetch_made x (writing a bs) = (λ e. absurd (both_ways false refl e), λ w. absurd w.1.read)

read_as : (x y : Behind) → x.cells.size ≡ y.cells.size → (c : Call) (n : ℕ) → ReadOf n x c → ReadOf n y c
read_as x y same (reading a b) n h = (sym (ap (λ z. check_run z a (length b)) same) ∙ h.0, h.1)
read_as x y same (writing a bs) n h = h

pub sort_law : (x : Behind) (cs : List Call) → HeldLaw x cs → SortLaw x cs
sort_law x cs law = record {
  hits = λ k c at.
      let y : Behind = behind_after x (take k cs) in
      let same : y.cells.size ≡ x.cells.size = size_after x (take k cs) in
      let low : k ≤ length cs = omega (arith, slice_get_within cs k c at) in (
        λ e. let w = (is_hit_held y c).0 e in (w.0, read_as y x same c w.0 w.1, (law.held w.0 k low).0 w.2),
        λ w. (is_hit_held y c).1 (w.0, read_as x y (sym same) c w.0 w.1, (law.held w.0 k low).1 w.2),
      );
  prefetches = λ k c at. is_prefetch_made (behind_after x (take k cs)) c;
}
