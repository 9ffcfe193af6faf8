-- What is found in the sets after each change. Assumes nothing.
use Rattle.std.proofs.Common.{◌≡◌, ℕ, ◌%◌, Bool, true, false, cond, eqb, ◌≢◌, ◌⊎◌, List, [], ◌∷◌, take, Some, None, Option, sym, refl, ap, ◌∙◌, inl, inr, ⊎_elim, arith}
use mathlib.Core.Path.{fun_ext}
use Rattle.std.proofs.lemmas.Bool.{cases_eq, cond-true, cond-false, eq-eqb, ne_eqb}
use Rattle.cache_lines.specs.declared.line.CacheLine.{CacheLine}
use Rattle.cache_lines.specs.Lines.{hit_once, find, without, after_hit, held_line}
use Rattle.cache_lines.specs.Sets.{one_changed, line_kept, line_dropped, line_hit}

never : {y : CacheLine} → ◌≡◌ {A = Option CacheLine} None (Some y) → ⊥
never e = let z : ◌≡◌ {A = ℕ} 0 1 = cc in omega arith

same_some : {x y : CacheLine} → ◌≡◌ {A = Option CacheLine} (Some x) (Some y) → y ≡ x
same_some e = cc

module _ (n : ℕ) where
  find_here : (x : CacheLine) (xs : List CacheLine) → x.number ≡ n → find n (x ∷ xs) ≡ Some x
  unfolding find
  find_here x xs e = cond-true _ _ _ (eq-eqb x.number n e)

  pub find_past : (x : CacheLine) (xs : List CacheLine) → x.number ≢ n → find n (x ∷ xs) ≡ find n xs
  unfolding find
  find_past x xs ne = cond-false _ _ _ (ne_eqb x.number n ne)

  find_none : find n [] ≡ None
  unfolding find
  find_none = refl

module _ (n : ℕ) (y : CacheLine) where
  -- what is found behind x, or x itself
  find_cases : (x : CacheLine) (xs : List CacheLine) → find n (x ∷ xs) ≡ Some y → ((x.number ≡ n) × (y ≡ x)) ⊎ ((x.number ≢ n) × (find n xs ≡ Some y))
  find_cases x xs e = ⊎_elim (λ is. inl (is, same_some (sym (find_here n x xs is) ∙ e))) (λ ne. inr (ne, sym (find_past n x xs ne) ∙ e)) (cases_eq x.number n)

  find_take : (k : ℕ) (xs : List CacheLine) → find n (take k xs) ≡ Some y → find n xs ≡ Some y
  find_take ℕ.zero xs e = absurd (never (sym (find_none n) ∙ e))
  find_take (ℕ.suc k) [] e = e
  find_take (ℕ.suc k) (x ∷ xs) e =
      ⊎_elim (λ h. find_here n x xs h.0 ∙ ap Some (sym h.1)) (λ h. find_past n x xs h.0 ∙ find_take k xs h.1) (find_cases x (take k xs) e)

  find_without : (k : ℕ) (xs : List CacheLine) → find n (without k xs) ≡ Some y → (n ≢ k) × (find n xs ≡ Some y)
  unfolding without
  find_without k [] e = absurd (never (sym (find_none n) ∙ e))
  find_without k (x ∷ xs) e =
      ⊎_elim
      (λ is.
      let rest = find_without k xs (ap (find n) (sym (cond-true _ _ _ (eq-eqb x.number k is))) ∙ e) in
      (rest.0, find_past n x xs (λ h. rest.0 (sym h ∙ is)) ∙ rest.1))
      (λ ne. ⊎_elim
      (λ h. ((λ w. ne (h.0 ∙ w)), find_here n x xs h.0 ∙ ap Some (sym h.1)))
      (λ h. let rest = find_without k xs h.1 in (rest.0, find_past n x xs h.0 ∙ rest.1))
      (find_cases x (without k xs) (ap (find n) (sym (cond-false _ _ _ (ne_eqb x.number k ne))) ∙ e)))
      (cases_eq x.number k)

  -- a line of these bytes was found before
  Was : List CacheLine → Type 0
  Was xs = (x : CacheLine) × (find n xs ≡ Some x) × (y.bytes ≡ x.bytes)

  find_after_hit : (k : ℕ) (xs : List CacheLine) → find n (after_hit k xs) ≡ Some y → (x : CacheLine) × (find n xs ≡ Some x) × (y.bytes ≡ x.bytes)
  unfolding after_hit
  find_after_hit k [] e = absurd (never (sym (find_none n) ∙ e))
  find_after_hit k (x ∷ xs) e =
      ⊎_elim
      (λ is. ⊎_elim
      (λ h. (x, find_here n x xs h.0, ap (λ (l : CacheLine). l.bytes) h.1))
      (λ h. (y, find_past n x xs h.0 ∙ h.1, refl))
      (find_cases (hit_once x) xs (ap (find n) (sym (cond-true _ _ _ (eq-eqb x.number k is))) ∙ e)))
      (λ ne. ⊎_elim
      (λ h. (x, find_here n x xs h.0, ap (λ (l : CacheLine). l.bytes) h.1))
      (λ h. let rest = find_after_hit k xs h.1 in (rest.0, find_past n x xs h.0 ∙ rest.1, rest.2))
      (find_cases x (after_hit k xs) (ap (find n) (sym (cond-false _ _ _ (ne_eqb x.number k ne))) ∙ e)))
      (cases_eq x.number k)

module _ (n : ℕ) (y : CacheLine) (s : ℕ → List CacheLine) where
  at_set : (k : ℕ) (f : List CacheLine → List CacheLine) → held_line n (one_changed k f s) ≡ Some y → (find n (f (s (n % 8))) ≡ Some y) ⊎ ((n ≢ k) × (held_line n s ≡ Some y))
  at_set k f e =
      ⊎_elim
      (λ is. inl (ap (find n) (sym (cond-true _ _ _ (eq-eqb (n % 8) (k % 8) is))) ∙ e))
      (λ ne. inr ((λ w. ne (ap (λ i. i % 8) w)), ap (find n) (sym (cond-false _ _ _ (ne_eqb (n % 8) (k % 8) ne))) ∙ e))
      (cases_eq (n % 8) (k % 8))

  pub held_kept : (x : CacheLine) → held_line n (line_kept x s) ≡ Some y → ((x.number ≡ n) × (y ≡ x)) ⊎ (held_line n s ≡ Some y)
  unfolding line_kept
  held_kept x e =
      ⊎_elim
      (λ h. ⊎_elim (λ w. inl w) (λ w. inr w.1) (find_cases n y x (s (n % 8)) (find_take n y 2 (x ∷ s (n % 8)) h)))
      (λ h. inr h.1)
      (at_set x.number (λ xs. take 2 (x ∷ xs)) e)

  pub held_dropped : (k : ℕ) → held_line n (line_dropped k s) ≡ Some y → (n ≢ k) × (held_line n s ≡ Some y)
  unfolding line_dropped
  held_dropped k e = ⊎_elim (λ h. find_without n y k (s (n % 8)) h) (λ h. h) (at_set k (without k) e)

  pub held_hit : (k : ℕ) → held_line n (line_hit k s) ≡ Some y → (x : CacheLine) × (held_line n s ≡ Some x) × (y.bytes ≡ x.bytes)
  unfolding line_hit
  held_hit k e = ⊎_elim (λ h. find_after_hit n y k (s (n % 8)) h) (λ h. (y, h.1, refl)) (at_set k (after_hit k) e)

pub held_none : (n : ℕ) (y : CacheLine) → find n [] ≡ Some y → ⊥
held_none n y e = never (sym (find_none n) ∙ e)

hit_at : (n : ℕ) (x : CacheLine) (xs : List CacheLine) (t : Bool) → (find n xs ≡ None → after_hit n xs ≡ xs) → cond t (Some x) (find n xs) ≡ None → cond t (hit_once x ∷ xs) (x ∷ after_hit n xs) ≡ x ∷ xs
hit_at n x xs true rest h = absurd (never (sym h))
hit_at n x xs false rest h = ap (λ ys. x ∷ ys) (rest h)

after_hit_none : (n : ℕ) (xs : List CacheLine) → find n xs ≡ None → after_hit n xs ≡ xs
unfolding find after_hit
after_hit_none n [] e = refl
after_hit_none n (x ∷ xs) e = hit_at n x xs (eqb x.number n) (after_hit_none n xs) e

-- a hit of a line that is not held changes nothing
pub hit_none : (n : ℕ) (s : ℕ → List CacheLine) → held_line n s ≡ None → line_hit n s ≡ s
unfolding line_hit
hit_none n s e = fun_ext (λ k. ⊎_elim (here k) (λ ne. cond-false _ _ _ (ne_eqb k (n % 8) ne)) (cases_eq k (n % 8)))
  where
    here : (k : ℕ) → k ≡ n % 8 → one_changed n (after_hit n) s k ≡ s k
    here k is = cond-true _ _ _ (eq-eqb k (n % 8) is) ∙ after_hit_none n (s k) (ap (λ i. find n (s i)) is ∙ e)
