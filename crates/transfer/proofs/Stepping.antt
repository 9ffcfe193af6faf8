-- A fold over the parts of a run, and the steps of a loop over them. Assumes nothing.
use Rattle.std.proofs.Common.{◌≡◌, ℕ, zero, suc, ◌+◌, ◌-◌, ◌*◌, ◌/◌, ◌%◌, ◌<◌, ◌≤◌, min, true, false, cond, eqb, ◌⊎◌, sym, refl, ap, ◌∙◌, inl, inr, ⊎_elim, add-zero, zero-add, suc-add, suc-mul, mod-lt, div-add-mod', arith}
use native.Mathlib.Nat.{sub-zero}
use Rattle.std.proofs.lemmas.Bool.{cases_lt, cond-true, cond-false, eq-eqb, ne_eqb}
use Rattle.std.proofs.lemmas.Nat.{mod-mul-add}
use Rattle.transfer.specs.Parts.{over_parts}

module _ {X : Type 0} (g : ℕ) (f : ℕ → X → X) where
  rest : (n j k o s : ℕ) (x : X) → 0 < o → o + n ≤ g → s ≡ k * g + o → over_parts g f false s (n + j) x ≡ over_parts g f false (s + n) j x
  unfolding over_parts
  rest zero j k o s x some fits is = ap (λ i. over_parts g f false s i x) (zero-add j) ∙ ap (λ i. over_parts g f false i j x) (sym (add-zero s))
  rest (suc n) j k o s x some fits is =
      let low : o < g = omega arith in
      let off : s % g ≡ o = ap (λ i. i % g) is ∙ mod-mul-add k g o low in
      let quiet : cond (eqb (s % g) 0) (f s x) x ≡ x = cond-false (eqb (s % g) 0) (f s x) x (ne_eqb (s % g) 0 (λ e. omega arith)) in
      let at : suc s + n ≡ s + suc n = omega arith in
      ap (λ i. over_parts g f false s i x) (suc-add n j)
      ∙ ap (over_parts g f false (suc s) (n + j)) quiet
      ∙ rest n j k (o + 1) (suc s) x (omega arith) (omega arith) (omega arith)
      ∙ ap (λ i. over_parts g f false i j x) at

  first_again : (s j : ℕ) (x : X) → (j ≡ 0) ⊎ (s % g ≡ 0) → over_parts g f false s j x ≡ over_parts g f true s j x
  unfolding over_parts
  first_again s zero x e = refl
  first_again s (suc j) x (inl none) = absurd (omega arith)
  first_again s (suc j) x (inr edge) = ap (over_parts g f false (suc s) j) (cond-true (eqb (s % g) 0) (f s x) x (eq-eqb (s % g) 0 edge))

  whole : (n j k o s : ℕ) (x : X) → 0 < n → o + n ≤ g → s ≡ k * g + o → over_parts g f true s (n + j) x ≡ over_parts g f false (s + n) j (f s x)
  unfolding over_parts
  whole zero j k o s x some fits is = absurd (omega arith)
  whole (suc n) j k o s x some fits is =
      let at : suc s + n ≡ s + suc n = omega arith in
      ap (λ i. over_parts g f true s i x) (suc-add n j)
      ∙ rest n j k (o + 1) (suc s) (f s x) (omega arith) (omega arith) (omega arith)
      ∙ ap (λ i. over_parts g f false i j (f s x)) at

  next : (k o s n : ℕ) → s ≡ k * g + o → o + n ≡ g → s + n ≡ suc k * g + 0
  next k o s n split full = let more : suc k * g ≡ k * g + g = suc-mul k g in omega arith

  pub over_grain : (s n j : ℕ) (x : X) → 0 < n → s % g + n ≤ g → (j ≡ 0) ⊎ (s % g + n ≡ g) → over_parts g f true s (n + j) x ≡ over_parts g f true (s + n) j (f s x)
  over_grain s n j x some fits end =
      let k : ℕ = s / g in
      let o : ℕ = s % g in
      let split : s ≡ k * g + o = sym (div-add-mod' s g) in
      let edge : (j ≡ 0) ⊎ ((s + n) % g ≡ 0) = ⊎_elim (λ none. inl none)
      (λ full. inr (ap (λ i. i % g) (next k o s n split full) ∙ mod-mul-add (suc k) g 0 (omega arith))) end in
      whole n j k o s x some fits split ∙ first_again (s + n) j (f s x) edge

-- a step of a loop that goes grain by grain
pub record Step (g a n done step : ℕ) : Type 0 where
  pub some : 0 < step
  pub grain : (a + done) % g + step ≤ g
  pub room : done + step ≤ n
  pub left : n - done ≡ step + (n - (done + step))
  pub end : (n - (done + step) ≡ 0) ⊎ ((a + done) % g + step ≡ g)

pub step_is : (g a n done step : ℕ) → 0 < g → done < n → step ≡ min (g - (a + done) % g) (n - done) → Step g a n done step
step_is g a n done step pos more is =
    let low : (a + done) % g < g = mod-lt (a + done) pos in
    record {
      some = omega arith;
      grain = omega arith;
      room = omega arith;
      left = omega arith;
      end = ⊎_elim (λ near. inr (omega arith)) (λ far. inl (omega arith)) (cases_lt (g - (a + done) % g) (n - done));
    }

module _ {X : Type 0} (g : ℕ) (f : ℕ → X → X) (a n : ℕ) (before : X) where
  pub over_none : over_parts g f true a n before ≡ over_parts g f true (a + 0) (n - 0) before
  over_none = ap (λ b. over_parts g f true b n before) (sym (add-zero a)) ∙ ap (λ i. over_parts g f true (a + 0) i before) (sym (sub-zero n))

  pub over_more : (done step : ℕ) (x : X) → Step g a n done step → over_parts g f true a n before ≡ over_parts g f true (a + done) (n - done) x → over_parts g f true a n before ≡ over_parts g f true (a + (done + step)) (n - (done + step)) (f (a + done) x)
  over_more done step x s inv =
      let at : a + done + step ≡ a + (done + step) = omega arith in
      inv ∙ ap (λ i. over_parts g f true (a + done) i x) s.left
      ∙ over_grain g f (a + done) step (n - (done + step)) x s.some s.grain s.end
      ∙ ap (λ b. over_parts g f true b (n - (done + step)) (f (a + done) x)) at

  pub over_all : (done : ℕ) (x : X) → n ≤ done → over_parts g f true a n before ≡ over_parts g f true (a + done) (n - done) x → x ≡ over_parts g f true a n before
  unfolding over_parts
  over_all done x all inv = let none : n - done ≡ 0 = omega arith in sym (inv ∙ ap (λ i. over_parts g f true (a + done) i x) none)
