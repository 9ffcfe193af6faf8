-- What a mapping still has to show of the registers that arm, and how its laws follow. Assumes nothing.
use Rattle.std.proofs.Common.{◌≡◌, ℕ, ◌+◌, ◌*◌, ◌%◌, ◌^◌, ◌<◌, ◌≤◌, Bool, true, false, cond, not, ◌||◌, eqb, ltb, List, take, is_ok, Ok, Err, Some, None, sym, refl, ◌∙◌, ⊎_elim, arith, lit<}
use native.Mathlib.Nat.{mul-mod_left}
use Rattle.std.proofs.lemmas.Bool.{false≢true, or_parts, eqb-true, eqb-false, ltb-true, ltb-false, lt-ltb, le-ltb, not-false, cond-true, cond-false, cases_lt, cases_Bool}
use Rattle.std.specs.Option.{option_map}
use Rattle.mapping.specs.declared.refusal.ArmingRefusal.TheVariants.{BadImage, BadCondition, TooFar}
use Rattle.units.specs.Power.{is_power_of_two}
use Rattle.mapping.specs.Common.{common_widths}
use Rattle.mapping.specs.Rules.{Rules, image_size, placed, layout_of, divides}
use Rattle.mapping.specs.Arming.{arms, ArmedValues}
use Rattle.mapping.specs.Laws.{Lawful}
use Rattle.mapping.proofs.Widths.{shared_fits}
use Rattle.mapping.proofs.Multiples.{multiple_trans, multiple_room}
use Rattle.units.proofs.Powers.{power_is, power_divides, power_pow}

-- what arming has tested
pub record Tested (rules : Rules) (rs : List ℕ) : Type 0 where
  pub image_positive : 0 < image_size rs
  pub image_lines : image_size rs % 128 ≡ 0
  pub condition : rules.condition rs ≡ true
  pub extent_most : rules.extent rs ≤ 2 ^ 34

passed_all : (a m c : Bool) → is_ok (cond a (Err BadImage) (cond (not m) (Err BadCondition) (cond c (Err TooFar) (Ok (tt {0}))))) ≡ true → (a ≡ false) × (m ≡ true) × (c ≡ false)
passed_all true m c e = absurd (false≢true e)
passed_all false false c e = absurd (false≢true e)
passed_all false true true e = absurd (false≢true e)
passed_all false true false e = (refl, refl, refl)

pub is_tested : (rules : Rules) (rs : List ℕ) → arms rules rs ≡ true → Tested rules rs
is_tested rules rs passed =
    let tests = passed_all (eqb (image_size rs) 0 || not (divides 128 (image_size rs))) (rules.condition rs) (ltb (2 ^ 34) (rules.extent rs)) passed in
    let good = or_parts (eqb (image_size rs) 0) (not (divides 128 (image_size rs))) tests.0 in
    let lines = eqb-true (image_size rs % 128) 0 (not-false (divides 128 (image_size rs)) good.1) in
    let some : image_size rs ≡ 0 → ⊥ = eqb-false (image_size rs) 0 good.0 in
    record { image_positive = omega arith; image_lines = lines; condition = tests.1; extent_most = ltb-false (2 ^ 34) (rules.extent rs) tests.2 }

-- what the rules of a mapping show of registers that arm, of addresses inside the image
pub record Addressed (rules : Rules) (rs : List ℕ) : Type 0 where
  pub grain_power : is_power_of_two (rules.grain rs) ≡ true
  pub grain_least : 4 ≤ rules.grain rs
  pub grain_most : rules.grain rs ≤ 128
  pub within : (s v : ℕ) → s < image_size rs → rules.address rs s ≡ Some v → v < rules.extent rs
  pub apart : (s t v : ℕ) → s < image_size rs → t < image_size rs → rules.address rs s ≡ Some v → rules.address rs t ≡ Some v → s ≡ t
  pub follows : (k i : ℕ) → i < rules.grain rs → rules.address rs (k * rules.grain rs + i) ≡ option_map (λ v. v + i) (rules.address rs (k * rules.grain rs))
  pub line : (k v : ℕ) → rules.address rs (k * rules.grain rs) ≡ Some v → v % 128 + rules.grain rs ≤ 128

module _ (rules : Rules) (rs : List ℕ) where
  placed_some : (s v : ℕ) → placed rules rs s ≡ Some v → (s < image_size rs) × (rules.address rs s ≡ Some v)
  placed_some s v found =
      ⊎_elim
      (λ inside. (ltb-true s (image_size rs) inside, sym (cond-true (ltb s (image_size rs)) _ _ inside) ∙ found))
      (λ outside. let z : ◌≡◌ {A = ℕ} 0 1 = cc (cond-false (ltb s (image_size rs)) (rules.address rs s) None outside) in absurd (omega arith))
      (cases_Bool (ltb s (image_size rs)))

  image_grains : Tested rules rs → Addressed rules rs → image_size rs % rules.grain rs ≡ 0
  image_grains t a =
      multiple_trans (rules.grain rs) 128 (image_size rs) (power_divides (rules.grain rs) 128 a.grain_power (power_pow 7) a.grain_most) t.image_lines

  placed_follows : Tested rules rs → Addressed rules rs → (k i : ℕ) → i < rules.grain rs → placed rules rs (k * rules.grain rs + i) ≡ option_map (λ v. v + i) (placed rules rs (k * rules.grain rs))
  placed_follows t a k i small =
      let g = rules.grain rs in
      ⊎_elim
      (λ inside.
      let room = multiple_room (k * g) (image_size rs) g (mul-mod_left k g) (image_grains t a) inside in
      let all : k * g + i < image_size rs = omega arith in
      rw (lt-ltb (k * g) (image_size rs) inside, lt-ltb (k * g + i) (image_size rs) all) (a.follows k i small))
      (λ outside.
      let none : image_size rs ≤ k * g + i = omega arith in
      rw (le-ltb (k * g) (image_size rs) outside, le-ltb (k * g + i) (image_size rs) none) refl)
      (cases_lt (k * g) (image_size rs))

  -- The laws of an armed mapping, from what its rules show.
  pub is_lawful : take 2 rules.widths ≡ common_widths → ArmedValues rules rs → (Tested rules rs → Addressed rules rs) → Lawful (layout_of rules rs)
  is_lawful shared armed show =
      let t = is_tested rules rs armed.passed in
      let a = show t in
      record {
        image_positive = t.image_positive;
        image_lines = t.image_lines;
        image_low = shared_fits rules.widths rs shared armed.fit 0 (lit< tt);
        table_low = shared_fits rules.widths rs shared armed.fit 1 (lit< tt);
        grain_power = power_is (rules.grain rs) a.grain_power;
        grain_least = a.grain_least;
        grain_most = a.grain_most;
        image_grains = image_grains t a;
        extent_most = t.extent_most;
        within = λ s v found. let p = placed_some s v found in (p.0, a.within s v p.0 p.1);
        apart = λ s t v first second.
            let p = placed_some s v first in
            let q = placed_some t v second in
            a.apart s t v p.0 q.0 p.1 q.1;
        grained = record {
          follows = placed_follows t a;
          line = λ k v found. a.line k v (placed_some (k * rules.grain rs) v found).1;
        };
      }
