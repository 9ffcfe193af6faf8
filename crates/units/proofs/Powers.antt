-- Powers of two: a number with one bit set is one, and the smaller of two divides the larger. Assumes nothing.
use Rattle.std.proofs.Common.{◌≡◌, ℕ, ◌+◌, ◌-◌, ◌*◌, ◌/◌, ◌%◌, ◌^◌, ◌<◌, ◌≤◌, true, refl, ap, ◌∙◌, ⊎_elim, arith, lit<, pow_pos, pow-add}
use native.Mathlib.Nat.{mul-mod_right}
use lib.Arith.{bin_ind}
use lib.Count.{ones, ones_step, ones_cat, ones-le}
use lib.Pow.{pow-lt}
use Rattle.std.proofs.lemmas.Bool.{eqb-true, eq-eqb, cases_lt}
use Rattle.std.specs.Prelude.{Decides}
use Rattle.units.specs.Power.{is_power_of_two, PowerOfTwo}

-- a number without a bit set is 0
ones_none : (n : ℕ) → ones n ≡ 0 → n ≡ 0
ones_none = bin_ind (λ n. ones n ≡ 0 → n ≡ 0) (λ _. refl) (λ n half none.
    let bits = ones_step n in
    let low : n / 2 ≡ 0 = half (omega arith) in
    omega arith)

ones_one : (n : ℕ) → ones n ≡ 1 → PowerOfTwo n
ones_one = bin_ind (λ n. ones n ≡ 1 → PowerOfTwo n) (λ one. let none = ones-le 0 0 (lit< tt) in absurd (omega arith)) (λ n half one.
    let bits = ones_step n in
    ⊎_elim
    (λ even. let rest = half (omega arith) in (rest.0 + 1, omega (arith, pow-add 2 rest.0 1, rest.1)))
    (λ odd. let low = ones_none (n / 2) (omega arith) in (0, omega arith))
    (cases_lt (n % 2) 1))

-- the smaller of two powers divides the larger
powers_divide : (i j : ℕ) → 2 ^ i ≤ 2 ^ j → 2 ^ j % 2 ^ i ≡ 0
powers_divide i j le =
    ⊎_elim
    (λ over. absurd (let more = pow-lt over in omega arith))
    (λ under.
    let split : j ≡ i + (j - i) = omega arith in
    ap (λ n. 2 ^ n % 2 ^ i) split ∙ ap (λ n. n % 2 ^ i) (pow-add 2 i (j - i)) ∙ mul-mod_right (2 ^ i) (2 ^ (j - i)))
    (cases_lt j i)

pub power_is : (n : ℕ) → is_power_of_two n ≡ true → PowerOfTwo n
power_is n one = ones_one n (eqb-true (ones n) 1 one)

pub power_divides : (m n : ℕ) → is_power_of_two m ≡ true → is_power_of_two n ≡ true → m ≤ n → n % m ≡ 0
power_divides m n one two le =
    let k = power_is m one in
    let l = power_is n two in
    rw (k.1, l.1) (powers_divide k.0 l.0 (omega (arith, k.1, l.1)))

pub power_some : (n : ℕ) → is_power_of_two n ≡ true → 0 < n
power_some n one = let k = power_is n one in omega (arith, k.1, pow_pos k.0)

pub power_pow : (k : ℕ) → is_power_of_two (2 ^ k) ≡ true
power_pow k = eq-eqb (ones (2 ^ k)) 1 (
    let bits = ones_cat k 1 0 (pow_pos k) in
    let top : ones (2 ^ k) ≡ ones (1 * 2 ^ k + 0) = ap ones (omega arith) in
    let one : ones 1 ≡ 1 + ones 0 = ones_step 1 in
    let none = ones-le 0 0 (lit< tt) in
    omega arith)

pub one_bit : (n : ℕ) → Decides (is_power_of_two n) (PowerOfTwo n)
one_bit n = (power_is n, λ power. ap is_power_of_two power.1 ∙ power_pow power.0)
