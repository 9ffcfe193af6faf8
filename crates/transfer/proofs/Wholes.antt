-- Runs of whole grains, grain by grain. Assumes nothing.
use Rattle.std.proofs.Common.{◌≡◌, ℕ, ◌+◌, ◌-◌, ◌%◌, ◌<◌, ◌≤◌, min, Bool, true, sym, ap, ◌∙◌, ⊎_elim, add-zero, arith}
use native.Mathlib.Nat.{sub-zero}
use Rattle.std.proofs.Math.Nat.{add-mod_right, mod-eq_of_lt}
use Rattle.std.proofs.lemmas.Bool.{cases_lt}
use Rattle.transfer.specs.Wholes.{Whole}

-- whole grains, of which there are some, are one at least
grain_least : (g n : ℕ) → 0 < n → n % g ≡ 0 → g ≤ n
grain_least g n some whole = ⊎_elim (λ low. absurd (omega (arith, sym (mod-eq_of_lt low) ∙ whole))) (λ high. omega (arith, high)) (cases_lt n g)

pub whole_step : (whole : Bool) (g s n : ℕ) → 0 < n → Whole whole g s n → whole ≡ true → g ≡ min (g - s % g) n
whole_step whole g s n some w is = omega (arith, (w is).0, grain_least g n some (w is).1)

-- without the first grain the others are whole
pub whole_rest : (whole : Bool) (g s n step : ℕ) → 0 < n → step ≡ min (g - s % g) n → Whole whole g s n → Whole whole g (s + step) (n - step)
whole_rest whole g s n step some is w so =
    let low = grain_least g n some (w so).1 in
    let step_is : step ≡ g = is ∙ sym (whole_step whole g s n some w so) in
    let left : n - step + g ≡ n = omega (arith, step_is, low) in (
      ap (λ i. (s + i) % g) step_is ∙ add-mod_right s g ∙ (w so).0,
      sym (add-mod_right (n - step) g) ∙ ap (λ i. i % g) left ∙ (w so).1,
    )

-- the same in a loop over a run
pub whole_first : (whole : Bool) (g a n : ℕ) → Whole whole g a n → Whole whole g (a + 0) (n - 0)
whole_first whole g a n w so = (ap (λ i. i % g) (add-zero a) ∙ (w so).0, ap (λ i. i % g) (sub-zero n) ∙ (w so).1)

pub whole_next : (whole : Bool) (g a n done step : ℕ) → done < n → step ≡ min (g - (a + done) % g) (n - done) → Whole whole g (a + done) (n - done) → Whole whole g (a + (done + step)) (n - (done + step))
whole_next whole g a n done step more is w so =
    let r = whole_rest whole g (a + done) (n - done) step (omega arith) is w so in
    let at : a + (done + step) ≡ a + done + step = omega arith in
    let left : n - (done + step) ≡ n - done - step = omega arith in
    (ap (λ i. i % g) at ∙ r.0, ap (λ i. i % g) left ∙ r.1)
