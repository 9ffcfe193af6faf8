-- What a text says as a list of prices. Assumes nothing.
-- lines text: the lines of the text; a line ends before a line feed, or at the end of the text
-- numeral n bs: the number that the digits bs say after those that say n
-- fitting n: n, where it has 32 bits at most
-- no_digit bs: the first of the bytes bs that is no digit
-- said n bs: the number that the bytes bs say after the digits that say n; nothing where one is no digit, or it has more than 32 bits
-- line_read k line: the price on the line of the number k, or what is wrong there
-- prices text: all prices, in order, or what is wrong on the first bad line
-- Told e p: p is the refusal e, unless e says that memory was wanting
use Rattle.std.specs.Prelude.{◌≡◌, ℕ, ◌+◌, ◌-◌, ◌*◌, ◌^◌, cond, not, is_some, List, [], ◌∷◌, Some, None, Ok, Err, Option, Result, ◌==◌, nat_lt}
use Rattle.std.specs.Char.{is_ascii_digit}
use Rattle.std.specs.List.{find, onto_first}
use Rattle.std.specs.Option.{ok_or}
use Rattle.prices.specs.declared.error.InputError.{InputError}
use Rattle.prices.specs.declared.error.InputError.TheVariants.{NoPrices, EmptyLine, NotADigit, TooLarge, TooMany, NoMemory}

unfoldable pub lines : List ℕ → List (List ℕ)
lines [] = []
lines (b ∷ bs) = cond (b == 10) ([] ∷ lines bs) (onto_first b (lines bs))

unfoldable pub numeral : ℕ → List ℕ → ℕ
numeral n [] = n
numeral n (b ∷ bs) = numeral (n * 10 + (b - 48)) bs

abbrev pub fitting : ℕ → Option ℕ
fitting n = cond (nat_lt n (2 ^ 32)) (Some n) None

abbrev pub no_digit : List ℕ → Option ℕ
no_digit bs = find (λ b. not (is_ascii_digit b)) bs

abbrev pub said : ℕ → List ℕ → Option ℕ
said n bs = cond (is_some (no_digit bs)) None (fitting (numeral n bs))

-- a number that is no price is too large
abbrev pub judged : ℕ → List ℕ → Option ℕ → Result ℕ InputError
judged k line (Some b) = Err (NotADigit k b)
judged k line None = ok_or (fitting (numeral 0 line)) (TooLarge k)

abbrev pub number_read : ℕ → List ℕ → Result ℕ InputError
number_read k [] = Err (EmptyLine k)
number_read k (b ∷ bs) = judged k (b ∷ bs) (no_digit (b ∷ bs))

abbrev pub line_read : ℕ → List ℕ → Result ℕ InputError
line_read k line = cond (nat_lt 1024 k) (Err (TooMany k)) (number_read k line)

abbrev pub with_price : Result ℕ InputError → Result (List ℕ) InputError → Result (List ℕ) InputError
with_price (Err e) rest = Err e
with_price (Ok n) (Err e) = Err e
with_price (Ok n) (Ok ns) = Ok (n ∷ ns)

unfoldable pub prices_from : ℕ → List (List ℕ) → Result (List ℕ) InputError
prices_from k [] = Ok []
prices_from k (l ∷ ls) = with_price (line_read k l) (prices_from (k + 1) ls)

unfoldable pub prices : List ℕ → Result (List ℕ) InputError
prices [] = Err NoPrices
prices (b ∷ bs) = prices_from 1 (lines (b ∷ bs))

abbrev pub Told : InputError → Result (List ℕ) InputError → Type 0
Told NoMemory p = Unit {0}
Told e p = p ≡ Err e
