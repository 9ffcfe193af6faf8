-- What a read leaves of the set of a line. Assumes nothing.
use Rattle.std.proofs.Common.{◌≡◌, ℕ, ◌+◌, ◌/◌, ◌%◌, ◌≢◌, ◌⊎◌, ◌&&◌, Bool, true, false, cond, List, ◌∷◌, length, take, is_ok, is_some, Some, None, Ok, Err, Option, Result, sym, refl, ap, ◌∙◌, inl, inr, ⊎_elim, subst, arith}
use Rattle.std.specs.Prelude.{Decides, ◌↔◌}
use Rattle.std.proofs.lemmas.Bool.{cases_Bool, cases_eq, both_ways, false_from_ne_true, and_parts, and_from, not-true, not_from_false, false≢true}
use Rattle.memory.specs.declared.fault.Fault.{Fault}
use Rattle.memory.specs.Run.{check_run}
use Rattle.memory.specs.Meaning.{Meaning}
use Rattle.memory.specs.Reach.{Call, reading}
use Rattle.cache_lines.specs.declared.line.CacheLine.{CacheLine}
use Rattle.cache_lines.specs.Sets.{line_kept, line_hit}
use Rattle.cache.specs.Rules.{whole_line, line_of, prefetch_keeps, after_prefetch, miss_keeps, first_hit, line_read, after_read}
use Rattle.cache.proofs.Turns.{hit_held, not_held}
use Rattle.cache_list.specs.Behind.{Behind, call_behind}
use Rattle.cache_list.specs.Counts.{next_kept}
use Rattle.cache_list.specs.Held.{ReadOf, Held, IsPrefetched, Misses, Prefetches, Keeps}
use Rattle.cache_lines.proofs.Holds.{found, found_prefetched, holds, prefetched, newest, holds_hit, newest_hit, prefetched_hit_other, prefetched_hit_here, length_hit, kept_apart, kept_in_set}

next_set : (p : ℕ) → p % 8 ≡ (p + 1) % 8 → ⊥
next_set p e = omega (arith, e)

-- the set of the line n after a read c of x: with the one line of it that is kept, or as the hit leaves it
module _ (x : Behind) (c : Call) (n : ℕ) (u t : ℕ → List CacheLine) where
  pub record Kept_one : Type 0 where
    pub line : CacheLine
    pub keeps : Keeps line.number x c
    pub in_set : line.number % 8 ≡ n % 8
    pub only : (o : ℕ) → Keeps o x c → o % 8 ≡ n % 8 → o ≡ line.number
    pub prefetched : (line.prefetched ≡ true) ↔ Prefetches line.number x c
    pub is : t (n % 8) ≡ line ∷ take 1 (u (n % 8))

  pub record Kept_none : Type 0 where
    pub none : (o : ℕ) → Keeps o x c → o % 8 ≡ n % 8 → ⊥
    pub is : t (n % 8) ≡ u (n % 8)

-- u: what is held once the hit was made, if it is one
pub record Read_once (x : Behind) (c : Call) (n : ℕ) (t : ℕ → List CacheLine) : Type 0 where
  pub u : ℕ → List CacheLine
  pub holds : holds n u ≡ holds n x.state.sets
  pub newest : newest n u ≡ newest n x.state.sets
  pub prefetched : (prefetched n u ≡ true) ↔ ((prefetched n x.state.sets ≡ true) × (ReadOf n x c → ⊥))
  pub long : length (u (n % 8)) ≡ length (x.state.sets (n % 8))
  pub set : Kept_one x c n u t ⊎ Kept_none x c n u t

-- where there is no hit
unhit : (x : Behind) (c : Call) (n : ℕ) (t : ℕ → List CacheLine) → (prefetched n x.state.sets ≡ true → ReadOf n x c → ⊥) → Kept_one x c n x.state.sets t ⊎ Kept_none x c n x.state.sets t → Read_once x c n t
unhit x c n t none set = record {
  u = x.state.sets;
  holds = refl;
  newest = refl;
  prefetched = (λ e. (e, none e), λ w. w.0);
  long = refl;
  set = set;
}

-- a read that causes 1 and 2 do not refuse
module _ (x : Behind) (a : ℕ) (b : List ℕ) (run : check_run x.cells.size a (length b) ≡ Ok tt) where
  abbrev m : Meaning
  m = x.cells

  abbrev s : ℕ → List CacheLine
  s = x.state.sets

  abbrev p : ℕ
  p = a / 128

  abbrev call : Call
  call = reading a b

  abbrev t : ℕ → List CacheLine
  t = (call_behind x call).state.sets

  sets_read : (h : Option Bool) → first_hit p s ≡ h → (call_behind x call).state.sets ≡ (line_read m p h x.state).sets
  unfolding after_read
  sets_read h is =
      ap (λ r. (cond (is_ok r) (line_read m p (first_hit p s) x.state) x.state).sets) run
      ∙ ap (λ f. (line_read m p f x.state).sets) is

  keeps_next : (v : ℕ → List CacheLine) → holds (p + 1) v ≡ holds (p + 1) s → Decides (prefetch_keeps m (p + 1) v) ((Held (p + 1) x → ⊥) × (whole_line m (p + 1) ≡ true))
  keeps_next v same = (
    λ e. let both = and_parts _ _ e in (λ h. both_ways _ (not-true _ both.0) (same ∙ h), both.1),
    λ w. and_from _ _ (not_from_false _ (same ∙ false_from_ne_true _ w.0)) w.1,
  )

  -- the line after the one read is prefetched
  prefetched_next : (v : ℕ → List CacheLine) → holds (p + 1) v ≡ holds (p + 1) s → Misses p x call ⊎ IsPrefetched p x → prefetch_keeps m (p + 1) v ≡ true → Prefetches (p + 1) x call
  prefetched_next v same cause q =
      let w = (keeps_next v same).0 q in
      record { before = p; next = refl; read = (run, refl); cause = cause; absent = w.0; accepted = w.1 }

  next_prefetched : (v : ℕ → List CacheLine) → holds (p + 1) v ≡ holds (p + 1) s → (n : ℕ) → Prefetches n x call → (prefetch_keeps m (p + 1) v ≡ true) × (n ≡ p + 1)
  next_prefetched v same n w =
      let is : n ≡ p + 1 = w.next ∙ ap (λ i. i + 1) (sym w.read.1) in
      ((keeps_next v same).1 (λ h. w.absent (subst (λ i. Held i x) (sym is) h), subst (λ i. whole_line m i ≡ true) is w.accepted), is)

  not_first : (n : ℕ) (h : Option Bool) → first_hit p s ≡ h → (h ≡ Some true → ⊥) → p ≡ n → IsPrefetched n x → ⊥
  not_first n h is ne same e = ne (sym is ∙ subst (λ i. first_hit i s ≡ Some true) (sym same) e)

  -- a set, where of the lines of it at most the next one is kept
  next_once : (n : ℕ) (u v : ℕ → List CacheLine) → holds (p + 1) v ≡ holds (p + 1) s → v (n % 8) ≡ u (n % 8) → Misses p x call ⊎ IsPrefetched p x → ((o : ℕ) → Keeps o x call → o % 8 ≡ n % 8 → Prefetches o x call)
      → Kept_one x call n u (after_prefetch m (p + 1) v) ⊎ Kept_none x call n u (after_prefetch m (p + 1) v)
  next_once n u v same at cause alone = by (prefetch_keeps m (p + 1) v) refl where
    y : CacheLine
    y = line_of m (p + 1) true

    by : (q : Bool) → prefetch_keeps m (p + 1) v ≡ q → Kept_one x call n u (cond q (line_kept y v) v) ⊎ Kept_none x call n u (cond q (line_kept y v) v)
    by true e = ⊎_elim
        (λ is. inl (record {
          line = y;
          keeps = inr (prefetched_next v same cause e);
          in_set = sym is;
          only = λ o k w. (next_prefetched v same o (alone o k w)).1;
          prefetched = (λ w. prefetched_next v same cause e, λ w. refl);
          is = kept_in_set n v y is ∙ ap (λ xs. y ∷ take 1 xs) at;
        }))
        (λ ne. inr (record {
          none = λ o k w. ne (sym w ∙ ap (λ i. i % 8) (next_prefetched v same o (alone o k w)).1);
          is = kept_apart n v y ne ∙ at;
        }))
        (cases_eq (n % 8) ((p + 1) % 8))
    by false e = inr (record {
      none = λ o k w. both_ways _ e (next_prefetched v same o (alone o k w)).0;
      is = at;
    })

  -- the line is not held
  module _ (none : first_hit p s ≡ None) where
    absent : Held p x → ⊥
    absent h = both_ways _ (ap is_some (not_held _ (sym none))) h

    not_one : None ≡ Some true → ⊥
    not_one e = let z : ◌≡◌ {A = ℕ} 0 1 = cc in omega arith

    no_first : (n : ℕ) → prefetched n s ≡ true → ReadOf n x call → ⊥
    no_first n e r = absent (subst (λ i. Held i x) (sym r.1) (found_prefetched n (s (n % 8)) e))

    module _ (whole : whole_line m p ≡ true) where
      abbrev v : ℕ → List CacheLine
      v = line_kept (line_of m p false) s

      missed : Misses p x call
      missed = record { read = (run, refl); absent = absent; accepted = whole }

      same_next : holds (p + 1) v ≡ holds (p + 1) s
      same_next = ap (found (p + 1)) (kept_apart (p + 1) s (line_of m p false) (λ w. next_set p (sym w)))

      kept_by : (o : ℕ) → Keeps o x call → (o ≡ p) ⊎ Prefetches o x call
      kept_by o = ⊎_elim (λ w. inl (sym w.read.1)) inr

      -- its own set, and the others
      own_set : (n : ℕ) → n % 8 ≡ p % 8 → Kept_one x call n s (after_prefetch m (p + 1) v)
      own_set n is = record {
        line = line_of m p false;
        keeps = inl missed;
        in_set = sym is;
        only = λ o k w. ⊎_elim (λ e. e) (λ f. absurd (next_set p (sym is ∙ sym w ∙ ap (λ i. i % 8) (next_prefetched v same_next o f).1))) (kept_by o k);
        prefetched = (λ e. absurd (both_ways false refl e), λ f. absurd (apart f.before f.next f.read.1));
        is = later (prefetch_keeps m (p + 1) v) ∙ kept_in_set n s (line_of m p false) is;
      } where
        apart : (q : ℕ) → p ≡ q + 1 → p ≡ q → ⊥
        apart q one two = omega (arith, one, two)

        later : (q : Bool) → cond q (line_kept (line_of m (p + 1) true) v) v (n % 8) ≡ v (n % 8)
        later true = kept_apart n v (line_of m (p + 1) true) (λ w. next_set p (sym is ∙ w))
        later false = refl

      other_set : (n : ℕ) → n % 8 ≢ p % 8 → Kept_one x call n s (after_prefetch m (p + 1) v) ⊎ Kept_none x call n s (after_prefetch m (p + 1) v)
      other_set n ne = next_once n s v same_next (kept_apart n s (line_of m p false) ne) (inl missed)
          (λ o k w. ⊎_elim (λ e. absurd (ne (sym w ∙ ap (λ i. i % 8) e))) (λ f. f) (kept_by o k))

      once_missed : (n : ℕ) → Read_once x call n t
      once_missed n = subst (Read_once x call n) (sym (sets_read None none ∙ ap (λ q. cond q (after_prefetch m (p + 1) v) s) whole))
          (unhit x call n (after_prefetch m (p + 1) v) (no_first n) (⊎_elim (λ is. inl (own_set n is)) (other_set n) (cases_eq (n % 8) (p % 8))))

    once_refused : whole_line m p ≡ false → (n : ℕ) → Read_once x call n t
    once_refused bad n = subst (Read_once x call n) (sym (sets_read None none ∙ ap (λ q. cond q (after_prefetch m (p + 1) (line_kept (line_of m p false) s)) s) bad))
        (unhit x call n s (no_first n) (inr (record {
          none = λ o k w. ⊎_elim (no_miss o) (λ f. ⊎_elim (no_miss f.before) (not_first f.before None none not_one f.read.1) f.cause) k;
          is = refl;
        }))) where
          no_miss : (o : ℕ) → Misses o x call → ⊥
          no_miss o w = both_ways _ bad (subst (λ i. whole_line m i ≡ true) (sym w.read.1) w.accepted)

  -- the line is held
  module _ (one : Bool) (is : first_hit p s ≡ Some one) where
    held_read : Held p x
    held_read = let y = hit_held _ one (sym is) in ap is_some y.1

    no_miss_held : (n : ℕ) → Misses n x call → ⊥
    no_miss_held n w = w.absent (subst (λ i. Held i x) w.read.1 held_read)

    abbrev h : ℕ → List CacheLine
    h = line_hit p s

    prefetched_read : (n : ℕ) → (prefetched n h ≡ true) ↔ ((prefetched n s ≡ true) × (ReadOf n x call → ⊥))
    prefetched_read n = ⊎_elim
        (λ e. (
          λ w. absurd (both_ways _ (prefetched_hit_here p s) (subst (λ i. prefetched i h ≡ true) e w)),
          λ w. absurd (w.1 (run, sym e)),
        ))
        (λ ne. (
          λ w. (sym (prefetched_hit_other n p s ne) ∙ w, λ r. ne (sym r.1)),
          λ w. prefetched_hit_other n p s ne ∙ w.0,
        ))
        (cases_eq n p)

    once_hit : (n : ℕ) → Kept_one x call n h t ⊎ Kept_none x call n h t → Read_once x call n t
    once_hit n set = record { u = h; holds = holds_hit n p s; newest = newest_hit n p s; prefetched = prefetched_read n; long = length_hit n p s; set = set }

  once_first : first_hit p s ≡ Some true → (n : ℕ) → Read_once x call n t
  once_first is n = once_hit true is n
      (subst (λ v. Kept_one x call n (line_hit p s) v ⊎ Kept_none x call n (line_hit p s) v) (sym (sets_read (Some true) is))
      (next_once n (line_hit p s) (line_hit p s) (holds_hit (p + 1) p s) refl (inr is) (λ o k w. ⊎_elim (λ f. absurd (no_miss_held true is o f)) (λ f. f) k)))

  not_quiet : ◌≡◌ {A = Option Bool} (Some false) (Some true) → ⊥
  not_quiet e = false≢true cc

  once_quiet : first_hit p s ≡ Some false → (n : ℕ) → Read_once x call n t
  once_quiet is n = once_hit false is n (inr (record {
    none = λ o k w. ⊎_elim (no_miss_held false is o) (λ f. ⊎_elim (no_miss_held false is f.before) (not_first f.before (Some false) is not_quiet f.read.1) f.cause) k;
    is = ap (λ v. v (n % 8)) (sets_read (Some false) is);
  }))

  once_taken : (n : ℕ) → Read_once x call n t
  once_taken n = by (first_hit p s) refl where
    by : (o : Option Bool) → first_hit p s ≡ o → Read_once x call n t
    by None e = ⊎_elim (λ w. once_missed e w n) (λ w. once_refused e w n) (cases_Bool (whole_line m p))
    by (Some true) e = once_first e n
    by (Some false) e = once_quiet e n

  -- a prefetch keeps a line at the read, just if one is prefetched by it
  abbrev Next : Type 0
  Next = (n : ℕ) × Prefetches n x call

  next_missed : (none : first_hit p s ≡ None) → Decides (miss_keeps m p s) Next
  next_missed none = (
    λ e. let both = and_parts _ _ e in (p + 1, prefetched_next (v none both.0) (same_next none both.0) (inl (missed none both.0)) both.1),
    λ w. ⊎_elim
        (λ k. let whole = subst (λ i. whole_line m i ≡ true) (sym w.1.read.1) k.accepted in and_from _ _ whole (next_prefetched (v none whole) (same_next none whole) w.0 w.1).0)
        (λ e. absurd (not_first w.1.before None none (not_one none) w.1.read.1 e)) w.1.cause,
  )

  next_hit : (one : Bool) → first_hit p s ≡ Some one → Decides (one && prefetch_keeps m (p + 1) (line_hit p s)) Next
  next_hit true is = (
    λ e. (p + 1, prefetched_next (line_hit p s) (holds_hit (p + 1) p s) (inr is) e),
    λ w. (next_prefetched (line_hit p s) (holds_hit (p + 1) p s) w.0 w.1).0,
  )
  next_hit false is = (
    λ e. absurd (both_ways false refl e),
    λ w. absurd (⊎_elim (no_miss_held false is w.1.before) (not_first w.1.before (Some false) is not_quiet w.1.read.1) w.1.cause),
  )

  pub next_made : Decides (next_kept m p s (first_hit p s)) ((n : ℕ) × Prefetches n x call)
  next_made = by (first_hit p s) refl where
    by : (o : Option Bool) → first_hit p s ≡ o → Decides (next_kept m p s o) Next
    by None e = next_missed e
    by (Some one) e = next_hit one e

pub ok_or_err : {f : Fault} (r : Result (Unit {0}) Fault) → r ≡ Err f → r ≡ Ok tt → ⊥
ok_or_err r one two = absurd cc

pub read_once : (x : Behind) (a : ℕ) (b : List ℕ) (n : ℕ) → Read_once x (reading a b) n (call_behind x (reading a b)).state.sets
unfolding after_read
read_once x a b n = by (check_run x.cells.size a (length b)) refl where
  by : (r : Result (Unit {0}) Fault) → check_run x.cells.size a (length b) ≡ r → Read_once x (reading a b) n (call_behind x (reading a b)).state.sets
  by (Ok u) e = once_taken x a b e n
  by (Err f) e = subst (Read_once x (reading a b) n)
      (sym (ap (λ r. (cond (is_ok r) (line_read x.cells (a / 128) (first_hit (a / 128) x.state.sets) x.state) x.state).sets) e))
      (unhit x (reading a b) n x.state.sets (λ w r. ok_or_err _ e r.0)
      (inr (record { none = λ o k w. ⊎_elim (λ f. ok_or_err _ e f.read.0) (λ f. ok_or_err _ e f.read.0) k; is = refl })))
