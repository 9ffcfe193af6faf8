-- What a read and a write leave of a cache, from what its parts bring. Assumes nothing.
use Rattle.std.proofs.Common.{◌≡◌, ℕ, ◌+◌, ◌/◌, ◌%◌, Bool, true, false, cond, ◌&&◌, List, length, take, drop, is_ok, Some, None, Ok, Err, Option, Result, sym, refl, ap, ◌∙◌, subst}
use Rattle.std.specs.Option.{option_map}
use Rattle.memory.specs.declared.fault.Fault.{Fault}
use Rattle.memory.specs.Run.{check_run}
use Rattle.memory.specs.Meaning.{Meaning}
use Rattle.memory.specs.Reach.{Call, reading, writing, first_cell, cells_of, cells_after}
use Rattle.memory.specs.Calls.{read_answer, write_answer, delivered, written, bytes}
use Rattle.memory.specs.Fault.{from_below}
use Rattle.memory.specs.Up.{cells_up}
use Rattle.memory.proofs.Calls.{answer_outside, writes_as_reads, written_refused}
use Rattle.memory.proofs.Ups.{read_inside_up}
use Rattle.cache_lines.specs.declared.line.CacheLine.{CacheLine}
use Rattle.cache_lines.specs.Lines.{copied_from, held_line}
use Rattle.cache_lines.specs.Sets.{line_dropped, line_hit}
use Rattle.cache.specs.Counts.{counted}
use Rattle.cache.specs.Rules.{after_prefetch, after_miss, prefetch_keeps, miss_keeps, first_hit, CacheState, line_read, after_read, after_write, cache_called}
use Rattle.cache.specs.State.{Copy, Mirrored, Called}
use Rattle.cache.proofs.Copies.{run_answer, run_delivered, mirrored_written, mirrored_refused, ok_is}

-- a held line, by what a hit of it says
pub hit_held : (o : Option CacheLine) (first : Bool) → Some first ≡ option_map (λ x. x.prefetched) o → (x : CacheLine) × (o ≡ Some x)
hit_held None first e = absurd cc
hit_held (Some x) first e = (x, refl)

pub not_held : (o : Option CacheLine) → None ≡ option_map (λ x. x.prefetched) o → o ≡ None
not_held None e = refl
not_held (Some x) e = absurd cc

-- a run that is not taken leaves all
module _ (m : Meaning) (a n : ℕ) (f : Fault) (bad : check_run m.size a n ≡ Err f) where
  pub write_outside : write_answer m a n ≡ Err f
  write_outside = writes_as_reads m a n ∙ answer_outside m a n f bad

  pub delivered_outside : (b : List ℕ) → length b ≡ n → b ≡ delivered m a b
  delivered_outside b long = sym (ap (λ r. cond (is_ok r) (bytes m.cell a (length b)) b) (ap (read_answer m a) long ∙ answer_outside m a n f bad))

  state_outside : (c : Call) (o : CacheState) → first_cell c ≡ a → cells_of c ≡ n → o ≡ cache_called m c o
  unfolding after_read after_write
  state_outside (reading b bs) o at long =
      let out : check_run m.size b (length bs) ≡ Err f = ap (λ x. check_run m.size x (length bs)) at ∙ ap (check_run m.size a) long ∙ bad in
      sym (ap (λ r. cond (is_ok r) (line_read m (b / 128) (first_hit (b / 128) o.sets) o) o) out)
  state_outside (writing b bs) o at long =
      let out : write_answer m b (length bs) ≡ Err f = ap (λ x. write_answer m x (length bs)) at ∙ ap (write_answer m a) long ∙ write_outside in
      sym (ap (λ r. cond (is_ok r) (record { sets = line_dropped (b / 128) o.sets; counts = o.counts }) o) out)

  cells_outside : (c : Call) → first_cell c ≡ a → cells_of c ≡ n → m ≡ cells_after m c
  cells_outside (reading b bs) at long = refl
  cells_outside (writing b bs) at long = sym (written_refused m b bs f (ap (λ x. write_answer m x (length bs)) at ∙ ap (write_answer m a) long ∙ write_outside))

  pub not_taken : {Reach Same : Type 0} (o : CacheState) (c : Call) → first_cell c ≡ a → cells_of c ≡ n → Reach → Same → Called Reach Same m m o o c
  not_taken o c at long reached same = record {
    state = state_outside c o at long;
    below = cells_outside c at long;
    reached = reached;
    quiet = λ q. same;
  }

-- what a hit brings
module _ (m : Meaning) (a : ℕ) (b : List ℕ) (s : ℕ → List CacheLine) (run : check_run m.size a (length b) ≡ Ok tt) (mirrored : Mirrored m s) (x : CacheLine) (is : held_line (a / 128) s ≡ Some x) where
  copy : Copy m (a / 128) x
  copy = mirrored (a / 128) x is

  pub hit_answer : Ok tt ≡ read_answer (cells_up m) a (length b)
  hit_answer = run_answer m a (length b) run copy.accepted

  pub hit_buffer : copied_from (held_line (a / 128) s) (a % 128) b ≡ delivered (cells_up m) a b
  hit_buffer =
      ap (λ o. copied_from o (a % 128) b) is
      ∙ ap (λ bs. take (length b) (drop (a % 128) bs)) copy.same
      ∙ run_delivered m a (length b) run copy.accepted b refl

-- what a read leaves
module _ (m n : Meaning) (a : ℕ) (b : List ℕ) (o p : CacheState) (run : check_run m.size a (length b) ≡ Ok tt) (same : n ≡ m) where
  state_read : (h : Option Bool) → first_hit (a / 128) o.sets ≡ h → p.sets ≡ (line_read m (a / 128) h o).sets → p.counts ≡ (line_read m (a / 128) h o).counts → p ≡ after_read m a (length b) o
  unfolding after_read
  state_read h is sets counts =
      let whole : p ≡ line_read m (a / 128) h o = λ i. record { sets = sets i; counts = counts i } in
      whole
      ∙ ap (λ x. line_read m (a / 128) x o) (sym is)
      ∙ sym (ap (λ r. cond (is_ok r) (line_read m (a / 128) (first_hit (a / 128) o.sets) o) o) run)

  pub read_hit : {Reach Same : Type 0} → Reach → (first : Bool) (k : Bool) → Some first ≡ first_hit (a / 128) o.sets → k ≡ (first && prefetch_keeps m (a / 128 + 1) (line_hit (a / 128) o.sets)) → p.sets ≡ cond first (after_prefetch m (a / 128 + 1) (line_hit (a / 128) o.sets)) (line_hit (a / 128) o.sets) → p.counts ≡ counted true k o.counts → (first ≡ false → Same) → Called Reach Same m n o p (reading a b)
  read_hit reached first k said kept sets counts quiet = record {
    state = state_read (Some first) (sym said) sets (counts ∙ ap (λ x. counted true x o.counts) kept);
    below = same;
    reached = reached;
    quiet = λ q. quiet (same_first first (first_hit (a / 128) o.sets) said q.1);
  } where
    same_first : (first : Bool) (h : Option Bool) → Some first ≡ h → h ≡ Some false → first ≡ false
    same_first first h one two = cc

  pub read_miss : {Reach Same : Type 0} → Reach → (k : Bool) → None ≡ first_hit (a / 128) o.sets → k ≡ miss_keeps m (a / 128) o.sets → p.sets ≡ after_miss m (a / 128) o.sets → p.counts ≡ counted false k o.counts → Called Reach Same m n o p (reading a b)
  read_miss reached k said kept sets counts = record {
    state = state_read None (sym said) sets (counts ∙ ap (λ x. counted false x o.counts) kept);
    below = same;
    reached = reached;
    quiet = λ q. absurd (no_hit (first_hit (a / 128) o.sets) said q.1);
  } where
    no_hit : (h : Option Bool) → None ≡ h → h ≡ Some false → ⊥
    no_hit h one two = absurd cc

-- what a write leaves
module _ (m : Meaning) (a : ℕ) (bs : List ℕ) (r : Result (Unit {0}) Fault) (taken : check_run m.size a (length bs) ≡ Ok tt) (is : r ≡ from_below (write_answer m a (length bs))) where
  pub write_up : r ≡ write_answer (cells_up m) a (length bs)
  write_up =
      is ∙ ap from_below (writes_as_reads m a (length bs))
      ∙ sym (read_inside_up m a (length bs) taken)
      ∙ sym (writes_as_reads (cells_up m) a (length bs))

  accepted_alike : is_ok r ≡ is_ok (write_answer m a (length bs))
  accepted_alike = ap is_ok is ∙ by (write_answer m a (length bs)) where
    by : (q : Result (Unit {0}) Fault) → is_ok (from_below q) ≡ is_ok q
    by (Ok u) = refl
    by (Err f) = refl

  pub mirrored_after : (s t : ℕ → List CacheLine) → t ≡ cond (is_ok r) (line_dropped (a / 128) s) s → Mirrored m s → Mirrored (written m a bs) t
  mirrored_after s t sets h = subst (Mirrored (written m a bs)) (sym (sets ∙ ap (λ b. cond b (line_dropped (a / 128) s) s) accepted_alike)) (by (is_ok (write_answer m a (length bs))) refl) where
    by : (b : Bool) → is_ok (write_answer m a (length bs)) ≡ b → Mirrored (written m a bs) (cond b (line_dropped (a / 128) s) s)
    by true e = mirrored_written m a bs s (ok_is _ e) h
    by false e = mirrored_refused m a bs s e h

  pub write_called : {Reach Same : Type 0} (n : Meaning) (o p : CacheState) → n ≡ written m a bs → Reach → p.sets ≡ cond (is_ok r) (line_dropped (a / 128) o.sets) o.sets → p.counts ≡ o.counts → Called Reach Same m n o p (writing a bs)
  unfolding after_write
  write_called n o p below reached sets counts = record {
    state = state_written;
    below = below;
    reached = reached;
    quiet = λ q. absurd q;
  } where
    by : (b : Bool) → ◌≡◌ {A = CacheState} (record { sets = cond b (line_dropped (a / 128) o.sets) o.sets; counts = o.counts }) (cond b (record { sets = line_dropped (a / 128) o.sets; counts = o.counts }) o)
    by true = refl
    by false = refl

    state_written : p ≡ after_write m a (length bs) o
    state_written =
        (λ i. record { sets = sets i; counts = counts i })
        ∙ by (is_ok r)
        ∙ ap (λ b. cond b (record { sets = line_dropped (a / 128) o.sets; counts = o.counts }) o) accepted_alike
