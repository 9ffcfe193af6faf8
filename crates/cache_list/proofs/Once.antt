-- Which lines are held after one call, which of them are prefetched, and which was kept last. Assumes nothing.
use Rattle.std.proofs.Common.{◌≡◌, ℕ, ◌/◌, ◌%◌, ◌≤◌, ◌≢◌, ◌⊎◌, ◌||◌, Bool, true, false, cond, eqb, List, [], length, take, is_ok, Some, None, Ok, Err, Option, Result, sym, refl, ap, ◌∙◌, inl, inr, ⊎_elim, subst, arith}
use Rattle.std.specs.Option.{option_map}
use Rattle.std.specs.Prelude.{◌↔◌}
use Rattle.std.proofs.lemmas.Bool.{cases_eq, both_ways, true_from_ne_false, or_left, or_right, or_cases, eq-eqb, ne_eqb, eqb-true, cond-true, cond-false}
use Rattle.std.proofs.lemmas.List.{length-take}
use Rattle.memory.specs.declared.fault.Fault.{Fault}
use Rattle.memory.specs.Reach.{Call, reading, writing}
use Rattle.memory.specs.Calls.{write_answer}
use Rattle.cache_lines.specs.declared.line.CacheLine.{CacheLine}
use Rattle.cache_lines.specs.Lines.{held_line}
use Rattle.cache_lines.specs.Sets.{line_dropped}
use Rattle.cache.specs.Rules.{after_write}
use Rattle.cache_list.specs.Behind.{Behind, call_behind}
use Rattle.cache_list.specs.Held.{ReadOf, Held, IsPrefetched, Newest, Prefetches, Keeps, Drops, Covers, Leaves, Uncovers}
use Rattle.cache_lines.proofs.Holds.{is_prefetched, found, prefetched_in, found_cons, prefetched_cons, found_one, prefetched_one, found_prefetched, none_found, holds, prefetched, newest, dropped_other, dropped_here, newest_dropped, length_dropped}
use Rattle.cache_list.proofs.Sets.{Kept_one, Kept_none, Read_once, read_once, ok_or_err}

-- of each set at most two lines are held
abbrev pub Two_ways : Behind → Type 0
Two_ways x = (n : ℕ) → length (x.state.sets (n % 8)) ≤ 2

abbrev Held_once : ℕ → Behind → Call → (ℕ → List CacheLine) → Type 0
Held_once n x c t = (holds n t ≡ true) ↔ (Keeps n x c ⊎ (Held n x × (Leaves n x c → ⊥)))

abbrev Prefetched_once : ℕ → Behind → Call → (ℕ → List CacheLine) → Type 0
Prefetched_once n x c t = (prefetched n t ≡ true) ↔ (Prefetches n x c ⊎ ((prefetched n x.state.sets ≡ true) × (ReadOf n x c ⊎ Leaves n x c → ⊥)))

abbrev Newest_once : ℕ → Behind → Call → (ℕ → List CacheLine) → Type 0
Newest_once n x c t = (newest n t ≡ true) ↔ ((Keeps n x c ⊎ Uncovers n x c) ⊎ (Newest n x × (Drops n x c ⊎ Covers n x c → ⊥)))

record Set_once (n : ℕ) (x : Behind) (c : Call) (t : ℕ → List CacheLine) : Type 0 where
  held : Held_once n x c t
  prefetched : Prefetched_once n x c t
  newest : Newest_once n x c t
  long : length (t (n % 8)) ≤ 2

-- a kept line was not held
keeps_absent : (n : ℕ) (x : Behind) (c : Call) → Keeps n x c → Held n x → ⊥
keeps_absent n x c k h = ⊎_elim (λ w. w.absent h) (λ w. w.absent h) k

-- a read
module _ (n : ℕ) (x : Behind) (a : ℕ) (b : List ℕ) (t : ℕ → List CacheLine) (r : Read_once x (reading a b) n t) where
  abbrev c : Call
  c = reading a b

  abbrev s : List CacheLine
  s = x.state.sets (n % 8)

  abbrev u : List CacheLine
  u = r.u (n % 8)

  module _ (k : Kept_one x (reading a b) n r.u t) where
    holds_now : holds n t ≡ (eqb k.line.number n || newest n r.u)
    holds_now = ap (found n) k.is ∙ found_cons n k.line (take 1 u)

    newest_now : newest n t ≡ (eqb k.line.number n || found n [])
    newest_now = ap (λ xs. found n (take 1 xs)) k.is ∙ found_cons n k.line []

    prefetched_now : prefetched n t ≡ cond (eqb k.line.number n) k.line.prefetched (prefetched_in n (take 1 u))
    prefetched_now = ap (prefetched_in n) k.is ∙ prefetched_cons n k.line (take 1 u)

    -- the kept line is the one that is asked about
    module _ (is : k.line.number ≡ n) where
      keeps_it : Keeps n x c
      keeps_it = subst (λ i. Keeps i x c) is k.keeps

      held_it : Held_once n x c t
      held_it = (λ e. inl keeps_it, λ h. holds_now ∙ or_left _ _ (eq-eqb _ _ is))

      newest_it : Newest_once n x c t
      newest_it = (λ e. inl (inl keeps_it), λ h. newest_now ∙ or_left _ _ (eq-eqb _ _ is))

      prefetched_it : Prefetched_once n x c t
      prefetched_it =
          let now = prefetched_now ∙ cond-true _ _ _ (eq-eqb _ _ is) in (
            λ e. inl (subst (λ i. Prefetches i x c) is (k.prefetched.0 (sym now ∙ e))),
            λ h. now ∙ ⊎_elim
                (λ w. k.prefetched.1 (subst (λ i. Prefetches i x c) (sym is) w))
                (λ w. absurd (keeps_absent n x c keeps_it (found_prefetched n s w.0))) h,
          )

    -- or another one of its set
    module _ (ne : k.line.number ≢ n) where
      cover : Covers n x c
      cover = record { other = k.line.number; keeps = k.keeps; apart = ne; same_set = k.in_set }

      not_kept : Keeps n x c → ⊥
      not_kept w = ne (sym (k.only n w refl))

      was_newest : (Leaves n x c → ⊥) → newest n r.u ≡ true
      was_newest l = r.newest ∙ true_from_ne_false _ (λ old. l (inr (cover, λ new. both_ways _ old new)))

      held_other : Held_once n x c t
      held_other = (
        λ e.
            let new : Newest n x = sym r.newest ∙ ⊎_elim (λ w. absurd (ne (eqb-true _ _ w))) (λ w. w) (or_cases _ _ (sym holds_now ∙ e)) in
            inr (found_one n s new, ⊎_elim (λ d. d) (λ w. w.1 new)),
        λ h. holds_now ∙ or_right _ _ (⊎_elim (λ w. absurd (not_kept w)) (λ w. was_newest w.1) h),
      )

      newest_other : Newest_once n x c t
      newest_other = (
        λ e. absurd (⊎_elim (λ w. ne (eqb-true _ _ w)) (none_found n) (or_cases _ _ (sym newest_now ∙ e))),
        λ h. absurd (⊎_elim (⊎_elim not_kept (λ w. w.drops)) (λ w. w.1 (inr cover)) h),
      )

      prefetched_other : Prefetched_once n x c t
      prefetched_other =
          let now : prefetched n t ≡ prefetched_in n (take 1 u) = prefetched_now ∙ cond-false _ _ _ (ne_eqb _ _ ne) in (
            λ e.
                let new : newest n r.u ≡ true = found_prefetched n (take 1 u) (sym now ∙ e) in
                let w = r.prefetched.0 (sym (prefetched_one n u new) ∙ sym now ∙ e) in
                inr (w.0, ⊎_elim w.1 (⊎_elim (λ d. d) (λ o. o.1 (sym r.newest ∙ new)))),
            ⊎_elim
                (λ w. absurd (not_kept (inr w)))
                (λ w. now ∙ prefetched_one n u (was_newest (λ l. w.1 (inr l))) ∙ r.prefetched.1 (w.0, λ q. w.1 (inl q))),
          )

    set_kept : length s ≤ 2 → Set_once n x c t
    set_kept few = record {
      held = ⊎_elim held_it held_other (cases_eq k.line.number n);
      prefetched = ⊎_elim prefetched_it prefetched_other (cases_eq k.line.number n);
      newest = ⊎_elim newest_it newest_other (cases_eq k.line.number n);
      long = omega (arith, ap length k.is, length-take 1 u);
    }

  module _ (k : Kept_none x (reading a b) n r.u t) where
    stays : Leaves n x c → ⊥
    stays = ⊎_elim (λ d. d) (λ o. k.none o.0.other o.0.keeps o.0.same_set)

    set_left : length s ≤ 2 → Set_once n x c t
    set_left few =
        let held = ap (found n) k.is ∙ r.holds in
        let new = ap (λ xs. found n (take 1 xs)) k.is ∙ r.newest in
        let one = ap (prefetched_in n) k.is in
        record {
          held = (λ e. inr (sym held ∙ e, stays), ⊎_elim (λ w. absurd (k.none n w refl)) (λ w. held ∙ w.0));
          prefetched = (
            λ e. let w = r.prefetched.0 (sym one ∙ e) in inr (w.0, ⊎_elim w.1 stays),
            ⊎_elim (λ w. absurd (k.none n (inr w) refl)) (λ w. one ∙ r.prefetched.1 (w.0, λ q. w.1 (inl q))),
          );
          newest = (
            λ e. inr (sym new ∙ e, ⊎_elim (λ d. d) (λ o. k.none o.other o.keeps o.same_set)),
            ⊎_elim (⊎_elim (λ w. absurd (k.none n w refl)) (λ w. absurd w.drops)) (λ w. new ∙ w.0),
          );
          long = omega (arith, few, ap length k.is, r.long);
        }

-- a write keeps no line
module _ (n : ℕ) (x : Behind) (a : ℕ) (bs : List ℕ) (few : length (x.state.sets (n % 8)) ≤ 2) where
  abbrev d : Call
  d = writing a bs

  no_keeping : (o : ℕ) → Keeps o x d → ⊥
  no_keeping o = ⊎_elim (λ w. w.read) (λ w. w.read)

  set_dropped : write_answer x.cells a (length bs) ≡ Ok tt → Set_once n x d (line_dropped (a / 128) x.state.sets)
  set_dropped ok =
      let p : ℕ = a / 128 in
      let stays : n ≢ p → Leaves n x d → ⊥ = λ ne. ⊎_elim (λ w. ne (sym w.1)) (λ o. no_keeping o.0.other o.0.keeps) in
      let other : holds n (line_dropped p x.state.sets) ≡ true → n ≢ p = λ e is. dropped_here p x.state.sets (subst (λ i. holds i (line_dropped p x.state.sets) ≡ true) is e) in
      let h = newest_dropped n p x.state.sets few in
      record {
        held = (
          λ e. let ne = other e in inr (sym (dropped_other n p x.state.sets ne).0 ∙ e, stays ne),
          ⊎_elim (λ w. absurd (no_keeping n w)) (λ w. (dropped_other n p x.state.sets (λ e. w.1 (inl (ok, sym e)))).0 ∙ w.0),
        );
        prefetched = (
          λ e. let ne = other (found_prefetched n (line_dropped p x.state.sets (n % 8)) e) in inr (sym (dropped_other n p x.state.sets ne).1 ∙ e, ⊎_elim (λ q. q) (stays ne)),
          ⊎_elim (λ w. absurd w.read) (λ w. (dropped_other n p x.state.sets (λ e. w.1 (inr (inl (ok, sym e))))).1 ∙ w.0),
        );
        newest = (
          λ e. let w = h.0 e in ⊎_elim
              (λ v. inr (v, ⊎_elim (λ q. w.0 (sym q.1)) (λ o. no_keeping o.other o.keeps)))
              (λ v. inl (inr (record { other = p; held = v.2; newest = v.1; drops = (ok, refl); apart = λ q. w.0 (sym q); same_set = v.0 }))) w.1,
          ⊎_elim
              (⊎_elim
              (λ w. absurd (no_keeping n w))
              (λ w. h.1 (
                λ e. w.apart (sym w.drops.1 ∙ sym e),
                inr (ap (λ i. i % 8) w.drops.1 ∙ w.same_set, subst (λ i. newest i x.state.sets ≡ true) (sym w.drops.1) w.newest, w.held),
              )))
              (λ w. h.1 ((λ e. w.1 (inl (ok, sym e))), inl w.0)),
        );
        long = length_dropped n p x.state.sets few;
      }

  set_refused : (f : Fault) → write_answer x.cells a (length bs) ≡ Err f → Set_once n x d x.state.sets
  set_refused f bad =
      let stays : Leaves n x d → ⊥ = ⊎_elim (λ w. ok_or_err _ bad w.0) (λ o. no_keeping o.0.other o.0.keeps) in
      record {
        held = (λ e. inr (e, stays), ⊎_elim (λ w. absurd (no_keeping n w)) (λ w. w.0));
        prefetched = (λ e. inr (e, ⊎_elim (λ q. q) stays), ⊎_elim (λ w. absurd w.read) (λ w. w.0));
        newest = (
          λ e. inr (e, ⊎_elim (λ w. ok_or_err _ bad w.0) (λ o. no_keeping o.other o.keeps)),
          ⊎_elim (⊎_elim (λ w. absurd (no_keeping n w)) (λ w. absurd (ok_or_err _ bad w.drops.0))) (λ w. w.0),
        );
        long = few;
      }

set_once : (n : ℕ) (x : Behind) (c : Call) → length (x.state.sets (n % 8)) ≤ 2 → Set_once n x c (call_behind x c).state.sets
unfolding after_write
set_once n x (reading a b) few =
    let r = read_once x a b n in
    ⊎_elim (λ k. set_kept n x a b _ r k few) (λ k. set_left n x a b _ r k few) r.set
set_once n x (writing a bs) few = by (write_answer x.cells a (length bs)) refl where
  both : (t : Bool) → cond t (line_dropped (a / 128) x.state.sets) x.state.sets ≡ (cond t (record { sets = line_dropped (a / 128) x.state.sets; counts = x.state.counts }) x.state).sets
  both true = refl
  both false = refl

  left : (r : Result (Unit {0}) Fault) → write_answer x.cells a (length bs) ≡ r → cond (is_ok r) (line_dropped (a / 128) x.state.sets) x.state.sets ≡ (call_behind x (writing a bs)).state.sets
  left r e = both (is_ok r) ∙ sym (ap (λ q. (cond (is_ok q) (record { sets = line_dropped (a / 128) x.state.sets; counts = x.state.counts }) x.state).sets) e)

  by : (r : Result (Unit {0}) Fault) → write_answer x.cells a (length bs) ≡ r → Set_once n x (writing a bs) (call_behind x (writing a bs)).state.sets
  by (Ok u) e = subst (Set_once n x (writing a bs)) (left (Ok u) e) (set_dropped n x a bs few e)
  by (Err f) e = subst (Set_once n x (writing a bs)) (left (Err f) e) (set_refused n x a bs few f e)

prefetched_is : (o : Option CacheLine) → (option_map (λ y. y.prefetched) o ≡ Some true) ↔ (is_prefetched o ≡ true)
prefetched_is None = ((λ e. let z : ◌≡◌ {A = ℕ} 0 1 = cc in absurd (omega arith)), λ e. absurd (both_ways false refl e))
prefetched_is (Some y) = ((λ e. cc), λ e. ap Some e)

module _ (n : ℕ) (x : Behind) (c : Call) (two : Two_ways x) where
  pub held_once : Held n (call_behind x c) ↔ (Keeps n x c ⊎ (Held n x × (Leaves n x c → ⊥)))
  held_once = (set_once n x c (two n)).held

  pub prefetched_once : IsPrefetched n (call_behind x c) ↔ (Prefetches n x c ⊎ (IsPrefetched n x × (ReadOf n x c ⊎ Leaves n x c → ⊥)))
  prefetched_once =
      let h = (set_once n x c (two n)).prefetched in
      let now = prefetched_is (held n (call_behind x c)) in
      let was = prefetched_is (held n x) in (
        λ e. ⊎_elim inl (λ w. inr (was.1 w.0, w.1)) (h.0 (now.0 e)),
        λ e. now.1 (h.1 (⊎_elim inl (λ w. inr (was.0 w.0, w.1)) e)),
      ) where
        held : ℕ → Behind → Option CacheLine
        held i y = held_line i y.state.sets

  pub newest_once : Newest n (call_behind x c) ↔ ((Keeps n x c ⊎ Uncovers n x c) ⊎ (Newest n x × (Drops n x c ⊎ Covers n x c → ⊥)))
  newest_once = (set_once n x c (two n)).newest

pub two_ways_once : (x : Behind) (c : Call) → Two_ways x → Two_ways (call_behind x c)
two_ways_once x c two n = (set_once n x c (two n)).long
