-- The lookups of a run, part by part. Assumes nothing.
use Rattle.std.proofs.Common.{◌≡◌, ℕ, zero, suc, ◌+◌, ◌*◌, ◌/◌, ◌%◌, ◌<◌, ◌≤◌, true, false, cond, eqb, ◌⊎◌, is_ok, Result, sym, refl, ap, ◌∙◌, inl, inr, ⊎_elim, zero-add, suc-add, suc-mul, div-add-mod', arith}
use Rattle.std.specs.Result.{result_and}
use Rattle.std.proofs.lemmas.Bool.{cond-true, cond-false, eq-eqb, ne_eqb}
use Rattle.std.proofs.lemmas.Nat.{mod-mul-add}
use Rattle.memory.specs.declared.fault.Fault.{Fault}
use Rattle.memory.specs.Meaning.{Cell, byte, fault, Meaning}
use Rattle.memory.specs.Calls.{cell_answer, first_fault}
use Rattle.mapping.specs.Rules.{Layout}
use Rattle.page_table.specs.declared.tlb.Tlb.{Tlb}
use Rattle.page_table.specs.Walk.{viewed}
use Rattle.walk.specs.Lookup.{looked_at}
use Rattle.transfer.specs.Parts.{Part}
use Rattle.transfer.specs.Lookups.{is_byte, met, lookups_from}

by_cell : (x : Cell) (r : Result (Unit {0}) Fault) (t A B : Tlb) → t ≡ cond (is_ok r) A B → cond (is_byte x) t B ≡ cond (is_ok (result_and (cell_answer x) r)) A B
by_cell (byte b) r t A B e = e
by_cell (fault f) r t A B e = refl

module _ (l : Layout) (m : Meaning) where
  -- inside a grain, past its first byte, nothing is looked up
  rest : (n j k o s : ℕ) (h : Tlb) → 0 < o → o + n ≤ l.grain → s ≡ k * l.grain + o → lookups_from l m false s (n + j) h ≡ cond (is_ok (first_fault (viewed l m) s n)) (lookups_from l m false (s + n) j h) h
  unfolding lookups_from first_fault
  rest zero j k o s h some fits is =
      ap (λ i. lookups_from l m false s i h) (zero-add j) ∙ ap (λ i. lookups_from l m false i j h) (omega arith)
  rest (suc n) j k o s h some fits is =
      let low : o < l.grain = omega arith in
      let off : s % l.grain ≡ o = ap (λ i. i % l.grain) is ∙ mod-mul-add k l.grain o low in
      let quiet : met l m false s h ≡ h = cond-false (eqb (s % l.grain) 0) (looked_at l m h s) h (ne_eqb (s % l.grain) 0 (λ e. omega arith)) in
      let tail : lookups_from l m false (suc s) (n + j) h ≡ cond (is_ok (first_fault (viewed l m) (suc s) n)) (lookups_from l m false (suc s + n) j h) h =
      rest n j k (o + 1) (suc s) h (omega arith) (omega arith) (omega arith) in
      let tail2 : lookups_from l m false (suc s) (n + j) h ≡ cond (is_ok (first_fault (viewed l m) (suc s) n)) (lookups_from l m false (s + suc n) j h) h =
      tail ∙ ap (λ i. cond (is_ok (first_fault (viewed l m) (suc s) n)) (lookups_from l m false i j h) h) (omega arith) in
      ap (λ i. lookups_from l m false s i h) (suc-add n j)
      ∙ ap (λ d. cond (is_byte (viewed l m s)) (lookups_from l m false (suc s) (n + j) d) d) quiet
      ∙ by_cell (viewed l m s) (first_fault (viewed l m) (suc s) n) (lookups_from l m false (suc s) (n + j) h) (lookups_from l m false (s + suc n) j h) h tail2

  -- a part of a grain is one lookup
  whole : (n j k o s : ℕ) (h : Tlb) → 0 < n → o + n ≤ l.grain → s ≡ k * l.grain + o → lookups_from l m true s (n + j) h ≡ cond (is_ok (first_fault (viewed l m) s n)) (lookups_from l m false (s + n) j (looked_at l m h s)) (looked_at l m h s)
  unfolding lookups_from first_fault
  whole zero j k o s h some fits is = absurd (omega arith)
  whole (suc n) j k o s h some fits is =
      let d : Tlb = looked_at l m h s in
      let tail : lookups_from l m false (suc s) (n + j) d ≡ cond (is_ok (first_fault (viewed l m) (suc s) n)) (lookups_from l m false (s + suc n) j d) d =
      rest n j k (o + 1) (suc s) d (omega arith) (omega arith) (omega arith)
      ∙ ap (λ i. cond (is_ok (first_fault (viewed l m) (suc s) n)) (lookups_from l m false i j d) d) (omega arith) in
      ap (λ i. lookups_from l m true s i h) (suc-add n j)
      ∙ by_cell (viewed l m s) (first_fault (viewed l m) (suc s) n) (lookups_from l m false (suc s) (n + j) d) (lookups_from l m false (s + suc n) j d) d tail

  first_again : (s j : ℕ) (h : Tlb) → (j ≡ 0) ⊎ (s % l.grain ≡ 0) → lookups_from l m false s j h ≡ lookups_from l m true s j h
  unfolding lookups_from
  first_again s zero h e = refl
  first_again s (suc j) h (inl none) = absurd (omega arith)
  first_again s (suc j) h (inr edge) =
      let same : met l m false s h ≡ met l m true s h = cond-true (eqb (s % l.grain) 0) (looked_at l m h s) h (eq-eqb (s % l.grain) 0 edge) in
      ap (λ d. cond (is_byte (viewed l m s)) (lookups_from l m false (suc s) j d) d) same

  pub tally_grain : (s n j : ℕ) (h : Tlb) → Part l s n → (j ≡ 0) ⊎ (s % l.grain + n ≡ l.grain) → lookups_from l m true s (n + j) h ≡ cond (is_ok (first_fault (viewed l m) s n)) (lookups_from l m true (s + n) j (looked_at l m h s)) (looked_at l m h s)
  tally_grain s n j h part end =
      let g : ℕ = l.grain in
      let k : ℕ = s / g in
      let o : ℕ = s % g in
      let split : s ≡ k * g + o = sym (div-add-mod' s g) in
      let edge : (j ≡ 0) ⊎ ((s + n) % g ≡ 0) = ⊎_elim (λ none. inl none)
      (λ full. inr (ap (λ i. i % g) (next k g o split full) ∙ mod-mul-add (suc k) g 0 (omega (arith, part.grain, part.some)))) end in
      whole n j k o s h part.some part.grain split
      ∙ ap (λ d. cond (is_ok (first_fault (viewed l m) s n)) d (looked_at l m h s)) (first_again (s + n) j (looked_at l m h s) edge) where
        next : (k g o : ℕ) → s ≡ k * g + o → o + n ≡ g → s + n ≡ suc k * g + 0
        next k g o split full = let more : suc k * g ≡ k * g + g = suc-mul k g in omega arith
