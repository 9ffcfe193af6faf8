-- Counting what passes a test, from place to place. Assumes nothing.
use Rattle.std.proofs.Common.{◌≡◌, ℕ, ◌+◌, ◌<◌, ◌≤◌, cond, true, false, List, length, get_or, drop, Result, ap, ◌∙◌, arith}
use Rattle.std.specs.Prelude.{count_by, is_ok}
use Rattle.std.proofs.lemmas.List.Sums.{sum_by-cons}
use Rattle.std.proofs.lemmas.List.{at_drop_more, at_drop_all}
use Rattle.memory.specs.declared.fault.Fault.{Fault}

abbrev one : Result ℕ Fault → ℕ
one r = cond (is_ok r) 1 0

pub count_yes : (rs : List (Result ℕ Fault)) (i : ℕ) (d : Result ℕ Fault) → i < length rs → is_ok (get_or rs i d) ≡ true
    → count_by is_ok (drop i rs) ≡ 1 + count_by is_ok (drop (i + 1) rs)
count_yes rs i d low is = at_drop_more (count_by is_ok) rs i d low ∙ sum_by-cons one (get_or rs i d) (drop (i + 1) rs) ∙ ap (λ b. cond b 1 0 + count_by is_ok (drop (i + 1) rs)) is

pub count_no : (rs : List (Result ℕ Fault)) (i : ℕ) (d : Result ℕ Fault) → i < length rs → is_ok (get_or rs i d) ≡ false
    → count_by is_ok (drop i rs) ≡ count_by is_ok (drop (i + 1) rs)
count_no rs i d low is = at_drop_more (count_by is_ok) rs i d low ∙ sum_by-cons one (get_or rs i d) (drop (i + 1) rs) ∙ ap (λ b. cond b 1 0 + count_by is_ok (drop (i + 1) rs)) is ∙ omega arith

pub count_all : (rs : List (Result ℕ Fault)) (i : ℕ) → length rs ≤ i → count_by is_ok (drop i rs) ≡ 0
count_all rs i past = at_drop_all (count_by is_ok) rs i past

pub ruleset counting = (count_yes, count_no, count_all)
