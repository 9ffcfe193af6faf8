-- The lines of a text, and the prices on them, one after the other. Assumes nothing.
use Rattle.std.proofs.Common.{◌≡◌, ℕ, suc, ◌+◌, ◌<◌, ◌≤◌, ◌==◌, false, min, subst, length-append, ◌≢◌, Bor, Option, Some, None, List, [], ◌∷◌, ◌++◌, length, get_or, take, Ok, Err, Result, sym, refl, ap, ◌∙◌, ⊎_elim, arith}
use Rattle.std.proofs.lemmas.List.{append-nil, append_assoc, get_or_append_left, nil_from_length, take_all}
use Rattle.std.proofs.Math.Seq.{take-suc}
use Rattle.std.proofs.lemmas.List.Elements.{All-head, All-tail}
use Rattle.std.specs.Option.{MatchOption, unwrap_or}
use Rattle.std.specs.List.{All, onto_first, IsFirstMatchOrLen}
use Rattle.std.proofs.lemmas.Bool.{eqb-true, cases_lt}
use Rattle.std.proofs.lemmas.Grind.{common_steps}
use Rattle.prices.specs.declared.error.InputError.{InputError}
use Rattle.prices.specs.declared.error.InputError.TheVariants.{NoPrices, NoMemory}
use Rattle.prices.specs.Prices.{lines, line_read, with_price, prices_from, prices, Told}

abbrev NoFeed : ℕ → Type 0
NoFeed b = (b == 10) ≡ false

lines_ended : (line rest : List ℕ) → All NoFeed line → lines (line ++ 10 ∷ rest) ≡ line ∷ lines rest
unfolding lines
lines_ended [] rest none = refl
lines_ended (b ∷ bs) rest none =
    rw (All-head NoFeed b bs none) (ap (onto_first b) (lines_ended bs rest (All-tail NoFeed b bs none)))

lines_open : (line : List ℕ) → 0 < length line → All NoFeed line → lines line ≡ line ∷ []
unfolding lines
lines_open [] some none = absurd (omega arith)
lines_open (b ∷ []) some none = rw (All-head NoFeed b [] none) refl
lines_open (b ∷ c ∷ bs) some none =
    rw (All-head NoFeed b (c ∷ bs) none) (ap (onto_first b) (lines_open (c ∷ bs) (omega arith) (All-tail NoFeed b (c ∷ bs) none)))

-- part is what `split_inclusive` cuts off first: it ends after the first line feed, or is all there is
module _ {text : List ℕ} (part : Bor (List ℕ)) (rest : List ℕ) {i : ℕ} (whole : text ≡ part.now ++ rest)
    (len : length part.now ≡ min (i + 1) (length text)) (first : IsFirstMatchOrLen (λ b. b == 10) text i) (some : 0 < length text) where
  none_in : (line more : List ℕ) → text ≡ line ++ more → length line ≤ i → All NoFeed line
  none_in line more e short k d low =
      subst NoFeed (ap (λ xs. get_or xs k d) e ∙ get_or_append_left line more d k low) (first.0 k d (omega arith) (omega arith))

  ended : (line : List ℕ) → part.now ≡ line ++ 10 ∷ [] → lines text ≡ line ∷ lines rest
  ended line e =
      let all : text ≡ line ++ 10 ∷ rest = whole ∙ ap (λ xs. xs ++ rest) e ∙ append_assoc line (10 ∷ []) rest in
      let short : length line ≤ i = omega (arith, ap length e, length-append line (10 ∷ [])) in
      ap lines all ∙ lines_ended line rest (none_in line (10 ∷ rest) all short)

  feed_last : i < length text → part.now ≡ take i part.now ++ 10 ∷ []
  feed_last low =
      let at : get_or part.now i 0 ≡ get_or text i 0 =
      sym (ap (λ xs. get_or xs i 0) whole ∙ get_or_append_left part.now rest 0 i (omega arith)) in
      sym (take_all (suc i) part.now (omega arith))
      ∙ take-suc part.now i 0 (omega arith)
      ∙ ap (λ b. take i part.now ++ b ∷ []) (at ∙ eqb-true _ _ (first.1 low 0))

  unended : ((line : List ℕ) → part.now ≢ line ++ 10 ∷ []) → lines text ≡ part.now ∷ lines rest
  unfolding lines
  unended open_end =
      let past : length text ≤ i =
      ⊎_elim (λ low. absurd (open_end (take i part.now) (feed_last low))) (λ past. past) (cases_lt i (length text)) in
      let none : rest ≡ [] = nil_from_length rest (omega (arith, ap length whole, length-append part.now rest)) in
      let all : text ≡ part.now = whole ∙ ap (λ xs. part.now ++ xs) none ∙ append-nil part.now in
      let size = ap length all in
      ap lines all
      ∙ lines_open part.now (omega (arith, size)) (none_in part.now rest whole (omega (arith, size)))
      ∙ ap (λ xs. part.now ∷ lines xs) (sym none)

  -- line is what `strip_suffix` and `unwrap_or` make of the part
  pub first_price : (k : ℕ) (o : Option (Bor (List ℕ))) (line : Bor (List ℕ))
      → MatchOption o ((front : List ℕ) → part.now ≢ front ++ 10 ∷ []) (λ x. part.now ≡ x.now ++ 10 ∷ [])
      → line ≡ unwrap_or o part
      → prices_from k (lines text) ≡ with_price (line_read k line.now) (prices_from (k + 1) (lines rest))
  unfolding prices_from
  first_price k None line none e = ap (prices_from k) (unended none ∙ ap (λ l. l.now ∷ lines rest) (sym e))
  first_price k (Some x) line one e = ap (prices_from k) (ended x.now one ∙ ap (λ l. l.now ∷ lines rest) (sym e))

-- the prices so far, before those of the rest
abbrev pub before : List ℕ → Result (List ℕ) InputError → Result (List ℕ) InputError
before ns (Ok rest) = Ok (ns ++ rest)
before ns (Err e) = Err e

pub before_push : (ns : List ℕ) (n : ℕ) (r : Result (List ℕ) InputError)
    → before (ns ++ n ∷ []) r ≡ before ns (with_price (Ok n) r)
before_push ns n (Ok rest) = ap Ok (append_assoc ns (n ∷ []) rest)
before_push ns n (Err e) = refl

pub before_none : (r : Result (List ℕ) InputError) → before [] r ≡ r
before_none (Ok rest) = refl
before_none (Err e) = refl

pub prices_some : (text : List ℕ) → 0 < length text → prices text ≡ prices_from 1 (lines text)
unfolding prices
prices_some [] some = absurd (omega arith)
prices_some (b ∷ bs) some = refl

pub prices_none : (text : List ℕ) → length text ≡ 0 → prices text ≡ Err NoPrices
unfolding prices
prices_none [] none = refl
prices_none (b ∷ bs) none = absurd (omega arith)

pub lines_none : (ns : List ℕ) (k : ℕ) (text : List ℕ) → length text ≡ 0 → before ns (prices_from k (lines text)) ≡ Ok ns
unfolding lines prices_from
lines_none ns k text none =
    ap (λ t. before ns (prices_from k (lines t))) (nil_from_length text none) ∙ ap Ok (append-nil ns)

-- where the text begins and ends
pub ruleset ends = (prices_none, prices_some, before_none, lines_none)

pub read_most : (k : ℕ) (line : List ℕ) (n : ℕ) → line_read k line ≡ Ok n → k ≤ 1024
read_most k line n e = grind (arith, common_steps)

pub is_told : (e : InputError) (p : Result (List ℕ) InputError) → p ≡ Err e → Told e p
is_told NoMemory p is = tt
is_told e p is = is
