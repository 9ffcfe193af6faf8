-- Whether a line is found, whether it is prefetched, and whether it was kept last, after each change. Assumes nothing.
use Rattle.std.proofs.Common.{◌≡◌, ℕ, suc, ◌%◌, ◌≤◌, ◌≢◌, ◌⊎◌, Bool, true, false, cond, ◌||◌, eqb, List, [], ◌∷◌, ◌++◌, length, take, is_some, Some, None, Option, sym, refl, ap, ◌∙◌, inl, inr, ⊎_elim, arith}
use Rattle.std.specs.Prelude.{◌↔◌}
use Rattle.std.proofs.lemmas.Bool.{cases_eq, cond-true, cond-false, eq-eqb, ne_eqb, eqb-true, or_cases, or_left, or_right, both_ways}
use Rattle.std.proofs.lemmas.List.{take_all}
use Rattle.cache_lines.specs.declared.line.CacheLine.{CacheLine}
use Rattle.cache_lines.specs.declared.sets.CacheSets.{CacheSets}
use Rattle.cache_lines.specs.Lines.{listed, sets_of, hit_once, find, without, after_hit}
use Rattle.cache_lines.specs.Sets.{one_changed, line_kept, line_dropped, line_hit}
use Rattle.cache_lines.proofs.Finds.{find_past}

abbrev pub is_prefetched : Option CacheLine → Bool
is_prefetched None = false
is_prefetched (Some x) = x.prefetched

some_prefetched : (o : Option CacheLine) → is_prefetched o ≡ true → is_some o ≡ true
some_prefetched None e = e
some_prefetched (Some x) e = refl

module _ (n : ℕ) where
  abbrev pub found : List CacheLine → Bool
  found xs = is_some (find n xs)

  abbrev pub prefetched_in : List CacheLine → Bool
  prefetched_in xs = is_prefetched (find n xs)

  some_cond : (t : Bool) (x : CacheLine) (o : Option CacheLine) → is_some (cond t (Some x) o) ≡ (t || is_some o)
  some_cond true x o = refl
  some_cond false x o = refl

  prefetched_cond : (t : Bool) (x : CacheLine) (o : Option CacheLine) → is_prefetched (cond t (Some x) o) ≡ cond t x.prefetched (is_prefetched o)
  prefetched_cond true x o = refl
  prefetched_cond false x o = refl

  pub found_cons : (x : CacheLine) (xs : List CacheLine) → found (x ∷ xs) ≡ (eqb x.number n || found xs)
  unfolding find
  found_cons x xs = some_cond (eqb x.number n) x (find n xs)

  pub prefetched_cons : (x : CacheLine) (xs : List CacheLine) → prefetched_in (x ∷ xs) ≡ cond (eqb x.number n) x.prefetched (prefetched_in xs)
  unfolding find
  prefetched_cons x xs = prefetched_cond (eqb x.number n) x (find n xs)

  find_behind : (x : CacheLine) (xs ys : List CacheLine) → find n xs ≡ find n ys → find n (x ∷ xs) ≡ find n (x ∷ ys)
  unfolding find
  find_behind x xs ys e = ap (cond (eqb x.number n) (Some x)) e

  pub none_found : found [] ≡ true → ⊥
  unfolding find
  none_found e = both_ways false refl e

  found_head : (x : CacheLine) → found (x ∷ []) ≡ true → x.number ≡ n
  found_head x e = ⊎_elim (eqb-true x.number n) (λ h. absurd (none_found h)) (or_cases _ _ (sym (found_cons x []) ∙ e))

  pub found_one : (xs : List CacheLine) → found (take 1 xs) ≡ true → found xs ≡ true
  found_one [] e = e
  found_one (x ∷ xs) e = found_cons x xs ∙ or_left _ _ (eq-eqb x.number n (found_head x e))

  pub prefetched_one : (xs : List CacheLine) → found (take 1 xs) ≡ true → prefetched_in (take 1 xs) ≡ prefetched_in xs
  prefetched_one [] e = refl
  prefetched_one (x ∷ xs) e =
      let here = eq-eqb x.number n (found_head x e) in
      prefetched_cons x [] ∙ cond-true _ _ _ here ∙ sym (prefetched_cons x xs ∙ cond-true _ _ _ here)

  pub found_prefetched : (xs : List CacheLine) → prefetched_in xs ≡ true → found xs ≡ true
  found_prefetched xs e = some_prefetched (find n xs) e

  -- the line of another number
  module _ (k : ℕ) (ne : n ≢ k) where
    find_without : (xs : List CacheLine) → find n (without k xs) ≡ find n xs
    unfolding without
    find_without [] = refl
    find_without (x ∷ xs) = ⊎_elim
        (λ is. ap (find n) (cond-true _ _ _ (eq-eqb x.number k is)) ∙ find_without xs ∙ sym (find_past n x xs (λ h. ne (sym h ∙ is))))
        (λ no. ap (find n) (cond-false _ _ _ (ne_eqb x.number k no)) ∙ find_behind x (without k xs) xs (find_without xs))
        (cases_eq x.number k)

    find_after_hit : (xs : List CacheLine) → find n (after_hit k xs) ≡ find n xs
    unfolding after_hit
    find_after_hit [] = refl
    find_after_hit (x ∷ xs) = ⊎_elim
        (λ is.
        let no : x.number ≢ n = λ h. ne (sym h ∙ is) in
        ap (find n) (cond-true _ _ _ (eq-eqb x.number k is)) ∙ find_past n (hit_once x) xs no ∙ sym (find_past n x xs no))
        (λ no. ap (find n) (cond-false _ _ _ (ne_eqb x.number k no)) ∙ find_behind x (after_hit k xs) xs (find_after_hit xs))
        (cases_eq x.number k)

  gone : (xs : List CacheLine) → found (without n xs) ≡ true → ⊥
  unfolding without
  gone [] e = none_found e
  gone (x ∷ xs) e = ⊎_elim
      (λ is. gone xs (sym (ap found (cond-true _ _ _ (eq-eqb x.number n is))) ∙ e))
      (λ no. ⊎_elim (λ h. no (eqb-true x.number n h)) (gone xs)
      (or_cases _ _ (sym (ap found (cond-false _ _ _ (ne_eqb x.number n no)) ∙ found_cons x (without n xs)) ∙ e)))
      (cases_eq x.number n)

  hit_clears : (xs : List CacheLine) → prefetched_in (after_hit n xs) ≡ false
  unfolding find after_hit
  hit_clears [] = refl
  hit_clears (x ∷ xs) = ⊎_elim
      (λ is. let here = eq-eqb x.number n is in ap prefetched_in (cond-true _ _ _ here) ∙ prefetched_cons (hit_once x) xs ∙ cond-true _ _ _ here)
      (λ no. let past = ne_eqb x.number n no in ap prefetched_in (cond-false _ _ _ past) ∙ prefetched_cons x (after_hit n xs) ∙ cond-false _ _ _ past ∙ hit_clears xs)
      (cases_eq x.number n)

  found_after_hit : (k : ℕ) (xs : List CacheLine) → found (after_hit k xs) ≡ found xs
  unfolding after_hit
  found_after_hit k [] = refl
  found_after_hit k (x ∷ xs) = by (eqb x.number k) (found_after_hit k xs) where
    by : (t : Bool) → found (after_hit k xs) ≡ found xs → found (cond t (hit_once x ∷ xs) (x ∷ after_hit k xs)) ≡ found (x ∷ xs)
    by true rest = found_cons (hit_once x) xs ∙ sym (found_cons x xs)
    by false rest = found_cons x (after_hit k xs) ∙ ap (λ t. eqb x.number n || t) rest ∙ sym (found_cons x xs)

  newest_after_hit : (k : ℕ) (xs : List CacheLine) → found (take 1 (after_hit k xs)) ≡ found (take 1 xs)
  unfolding after_hit
  newest_after_hit k [] = refl
  newest_after_hit k (x ∷ xs) = by (eqb x.number k) where
    by : (t : Bool) → found (take 1 (cond t (hit_once x ∷ xs) (x ∷ after_hit k xs))) ≡ found (x ∷ [])
    by true = found_cons (hit_once x) [] ∙ sym (found_cons x [])
    by false = refl

length_after_hit : (k : ℕ) (xs : List CacheLine) → length (after_hit k xs) ≡ length xs
unfolding after_hit
length_after_hit k [] = refl
length_after_hit k (x ∷ xs) = by (eqb x.number k) (length_after_hit k xs) where
  by : (t : Bool) → length (after_hit k xs) ≡ length xs → length (cond t (hit_once x ∷ xs) (x ∷ after_hit k xs)) ≡ length (x ∷ xs)
  by true rest = refl
  by false rest = ap suc rest

length_without : (k : ℕ) (xs : List CacheLine) → length (without k xs) ≤ length xs
unfolding without
length_without k [] = omega arith
length_without k (x ∷ xs) = by (eqb x.number k) (length_without k xs) where
  by : (t : Bool) → length (without k xs) ≤ length xs → length (cond t (without k xs) (x ∷ without k xs)) ≤ length (x ∷ xs)
  by true rest = omega (arith, rest)
  by false rest = omega (arith, rest)

-- of at most two lines, what is first once those of one number left
newest_without : (n k : ℕ) (xs : List CacheLine) → length xs ≤ 2 → (found n (take 1 (without k xs)) ≡ true) ↔ ((n ≢ k) × ((found n (take 1 xs) ≡ true) ⊎ ((found k (take 1 xs) ≡ true) × (found n xs ≡ true))))
unfolding without
newest_without n k [] few = (λ e. absurd (none_found n e), λ h. ⊎_elim (λ w. w) (λ w. absurd (none_found n w.1)) h.1)
newest_without n k (x ∷ xs) few = ⊎_elim here past (cases_eq x.number k) where
  here : x.number ≡ k → (found n (take 1 (without k (x ∷ xs))) ≡ true) ↔ ((n ≢ k) × ((found n (x ∷ []) ≡ true) ⊎ ((found k (x ∷ []) ≡ true) × (found n (x ∷ xs) ≡ true))))
  here is =
      let left : take 1 (without k (x ∷ xs)) ≡ without k xs =
      ap (take 1) (cond-true _ _ _ (eq-eqb x.number k is)) ∙ take_all 1 (without k xs) (omega (arith, few, length_without k xs)) in (
        λ e.
            let f : found n (without k xs) ≡ true = sym (ap (found n) left) ∙ e in
            let ne : n ≢ k = λ w. gone k xs (ap (λ i. found i (without k xs)) (sym w) ∙ f) in
            (ne, inr (found_cons k x [] ∙ or_left _ _ (eq-eqb x.number k is), found_cons n x xs ∙ or_right _ _ (sym (ap is_some (find_without n k ne xs)) ∙ f))),
        λ h.
            let no : x.number ≢ n = λ w. h.0 (sym w ∙ is) in
            ap (found n) left ∙ ap is_some (find_without n k h.0 xs)
            ∙ ⊎_elim (λ w. absurd (no (found_head n x w))) (λ w. sym (ap is_some (find_past n x xs no)) ∙ w.1) h.1,
      )

  past : x.number ≢ k → (found n (take 1 (without k (x ∷ xs))) ≡ true) ↔ ((n ≢ k) × ((found n (x ∷ []) ≡ true) ⊎ ((found k (x ∷ []) ≡ true) × (found n (x ∷ xs) ≡ true))))
  past ne =
      let same : take 1 (without k (x ∷ xs)) ≡ x ∷ [] = ap (take 1) (cond-false _ _ _ (ne_eqb x.number k ne)) in (
        λ e. let f : found n (x ∷ []) ≡ true = sym (ap (found n) same) ∙ e in ((λ w. ne (found_head n x f ∙ w)), inl f),
        λ h. ap (found n) same ∙ ⊎_elim (λ w. w) (λ w. absurd (ne (found_head k x w.0))) h.1,
      )

-- of the line n in the sets s
abbrev pub holds : ℕ → (ℕ → List CacheLine) → Bool
holds n s = found n (s (n % 8))

abbrev pub prefetched : ℕ → (ℕ → List CacheLine) → Bool
prefetched n s = prefetched_in n (s (n % 8))

abbrev pub newest : ℕ → (ℕ → List CacheLine) → Bool
newest n s = found n (take 1 (s (n % 8)))

module _ (n k : ℕ) (f : List CacheLine → List CacheLine) (s : ℕ → List CacheLine) where
  in_set : n % 8 ≡ k % 8 → one_changed k f s (n % 8) ≡ f (s (n % 8))
  in_set is = cond-true _ _ _ (eq-eqb (n % 8) (k % 8) is)

  out_of_set : n % 8 ≢ k % 8 → one_changed k f s (n % 8) ≡ s (n % 8)
  out_of_set ne = cond-false _ _ _ (ne_eqb (n % 8) (k % 8) ne)

  -- what no change of a set tells, no change of one of the sets does
  alike : {X : Type 0} (g : List CacheLine → X) → ((xs : List CacheLine) → g (f xs) ≡ g xs) → g (one_changed k f s (n % 8)) ≡ g (s (n % 8))
  alike g same = ⊎_elim (λ is. ap g (in_set is) ∙ same (s (n % 8))) (λ ne. ap g (out_of_set ne)) (cases_eq (n % 8) (k % 8))

-- after a hit, and after a drop, of the line k
module _ (n k : ℕ) (s : ℕ → List CacheLine) where
  pub holds_hit : holds n (line_hit k s) ≡ holds n s
  unfolding line_hit
  holds_hit = alike n k (after_hit k) s (found n) (found_after_hit n k)

  pub newest_hit : newest n (line_hit k s) ≡ newest n s
  unfolding line_hit
  newest_hit = alike n k (after_hit k) s (λ xs. found n (take 1 xs)) (newest_after_hit n k)

  pub prefetched_hit_other : n ≢ k → prefetched n (line_hit k s) ≡ prefetched n s
  unfolding line_hit
  prefetched_hit_other ne = alike n k (after_hit k) s (prefetched_in n) (λ xs. ap is_prefetched (find_after_hit n k ne xs))

  pub length_hit : length (line_hit k s (n % 8)) ≡ length (s (n % 8))
  unfolding line_hit
  length_hit = alike n k (after_hit k) s length (length_after_hit k)

  pub dropped_other : n ≢ k → (holds n (line_dropped k s) ≡ holds n s) × (prefetched n (line_dropped k s) ≡ prefetched n s)
  unfolding line_dropped
  dropped_other ne = (
    alike n k (without k) s (found n) (λ xs. ap is_some (find_without n k ne xs)),
    alike n k (without k) s (prefetched_in n) (λ xs. ap is_prefetched (find_without n k ne xs)),
  )

  pub newest_dropped : length (s (n % 8)) ≤ 2 → (newest n (line_dropped k s) ≡ true) ↔ ((n ≢ k) × ((newest n s ≡ true) ⊎ ((k % 8 ≡ n % 8) × (newest k s ≡ true) × (holds n s ≡ true))))
  unfolding line_dropped
  newest_dropped few = ⊎_elim same other (cases_eq (n % 8) (k % 8)) where
    same : n % 8 ≡ k % 8 → (newest n (one_changed k (without k) s) ≡ true) ↔ ((n ≢ k) × ((newest n s ≡ true) ⊎ ((k % 8 ≡ n % 8) × (newest k s ≡ true) × (holds n s ≡ true))))
    same is =
        let now = ap (λ xs. found n (take 1 xs)) (in_set n k (without k) s is) in
        let at : found k (take 1 (s (n % 8))) ≡ newest k s = ap (λ i. found k (take 1 (s i))) is in
        let h = newest_without n k (s (n % 8)) few in (
          λ e. let w = h.0 (sym now ∙ e) in (w.0, ⊎_elim inl (λ v. inr (sym is, sym at ∙ v.0, v.1)) w.1),
          λ w. now ∙ h.1 (w.0, ⊎_elim inl (λ v. inr (at ∙ v.1, v.2)) w.1),
        )

    other : n % 8 ≢ k % 8 → (newest n (one_changed k (without k) s) ≡ true) ↔ ((n ≢ k) × ((newest n s ≡ true) ⊎ ((k % 8 ≡ n % 8) × (newest k s ≡ true) × (holds n s ≡ true))))
    other ne =
        let now = ap (λ xs. found n (take 1 xs)) (out_of_set n k (without k) s ne) in (
          λ e. ((λ w. ne (ap (λ i. i % 8) w)), inl (sym now ∙ e)),
          λ w. now ∙ ⊎_elim (λ v. v) (λ v. absurd (ne (sym v.0))) w.1,
        )

  pub length_dropped : length (s (n % 8)) ≤ 2 → length (line_dropped k s (n % 8)) ≤ 2
  unfolding line_dropped
  length_dropped few = ⊎_elim
      (λ is. omega (arith, few, ap length (in_set n k (without k) s is), length_without k (s (n % 8))))
      (λ ne. omega (arith, few, ap length (out_of_set n k (without k) s ne)))
      (cases_eq (n % 8) (k % 8))

module _ (n : ℕ) (s : ℕ → List CacheLine) where
  pub prefetched_hit_here : prefetched n (line_hit n s) ≡ false
  unfolding line_hit
  prefetched_hit_here = ap (prefetched_in n) (in_set n n (after_hit n) s refl) ∙ hit_clears n (s (n % 8))

  pub dropped_here : holds n (line_dropped n s) ≡ true → ⊥
  unfolding line_dropped
  dropped_here e = gone n (s (n % 8)) (sym (ap (found n) (in_set n n (without n) s refl)) ∙ e)

  -- the line y is kept
  module _ (y : CacheLine) where
    pub kept_apart : n % 8 ≢ y.number % 8 → line_kept y s (n % 8) ≡ s (n % 8)
    unfolding line_kept
    kept_apart ne = out_of_set n y.number (λ xs. take 2 (y ∷ xs)) s ne

    pub kept_in_set : n % 8 ≡ y.number % 8 → line_kept y s (n % 8) ≡ y ∷ take 1 (s (n % 8))
    unfolding line_kept
    kept_in_set is = in_set n y.number (λ xs. take 2 (y ∷ xs)) s is

-- a set has no third line
pub two_ways : (s : CacheSets) (k : ℕ) → length (sets_of s k) ≤ 2
two_ways s k = by _ _ where
  by : (a b : Option CacheLine) → length (listed a ++ listed b) ≤ 2
  by None None = omega arith
  by None (Some y) = omega arith
  by (Some x) None = omega arith
  by (Some x) (Some y) = omega arith
