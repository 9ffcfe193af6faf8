-- Numbers digit by digit. Assumes nothing.
use Rattle.std.proofs.Common.{◌≡◌, ℕ, ◌+◌, ◌-◌, ◌*◌, ◌^◌, ◌<◌, ◌≤◌, ◌∙◌, true, false, cond, is_some, List, [], ◌∷◌, length, get_or, drop, None, Err, refl, arith}
use Rattle.std.proofs.lemmas.List.{at_drop_more, at_drop_all}
use Rattle.std.proofs.lemmas.Grind.{common_steps}
use Rattle.std.specs.Char.{is_ascii_digit}
use Rattle.prices.specs.declared.error.InputError.TheVariants.{EmptyLine}
use Rattle.prices.specs.Prices.{numeral, fitting, no_digit, said, judged, number_read}

-- the number that is said after the digit b
abbrev pub then : ℕ → ℕ → ℕ
then n b = n * 10 + (b - 48)

-- what is too large stays too large
pub fitting_large : (n : ℕ) (bs : List ℕ) → 2 ^ 32 ≤ n → fitting (numeral n bs) ≡ None
unfolding numeral
fitting_large n [] large = grind (arith, common_steps)
fitting_large n (b ∷ bs) large = fitting_large (then n b) bs (omega arith)

pub said_digit : (bs : List ℕ) (i n : ℕ) → i < length bs → is_ascii_digit (get_or bs i 0) ≡ true
    → said n (drop i bs) ≡ said (then n (get_or bs i 0)) (drop (i + 1) bs)
unfolding numeral
said_digit bs i n low digit = at_drop_more (said n) bs i 0 low ∙ rw digit refl

pub said_other : (bs : List ℕ) (i n : ℕ) → i < length bs → is_ascii_digit (get_or bs i 0) ≡ false → said n (drop i bs) ≡ None
said_other bs i n low other = at_drop_more (said n) bs i 0 low ∙ rw other refl

pub said_all : (bs : List ℕ) (i n : ℕ) → length bs ≤ i → said n (drop i bs) ≡ fitting n
unfolding numeral
said_all bs i n past = at_drop_all (said n) bs i past

pub said_large : (n : ℕ) (bs : List ℕ) → 2 ^ 32 ≤ n → said n bs ≡ None
said_large n bs large =
    elim (is_some (no_digit bs)) as (λ t. cond t None (fitting (numeral n bs)) ≡ None) [
      | true ↦ refl
      | false ↦ fitting_large n bs large
    ]

-- reading digits
pub ruleset digits = (said_digit, said_other, said_all, said_large)

pub number_some : (k : ℕ) (line : List ℕ) → 0 < length line → number_read k line ≡ judged k line (no_digit line)
number_some k [] some = absurd (omega arith)
number_some k (b ∷ bs) some = refl

pub number_none : (k : ℕ) (line : List ℕ) → length line ≡ 0 → number_read k line ≡ Err (EmptyLine k)
number_none k [] none = refl
number_none k (b ∷ bs) none = absurd (omega arith)

-- judging a line
pub ruleset judging = (number_some, number_none)
