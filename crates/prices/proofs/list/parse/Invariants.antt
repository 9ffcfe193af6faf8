use Rattle.std.proofs.Common.{◌≡◌, ◌≤◌, vec_items}
use Rattle.std.specs.Slice.Iter.{split_inclusive_rest}
use Rattle.std.specs.Iterator.Adapters.{zip_first, zip_second}
use Rattle.prices.specs.Prices.{lines, prices_from, prices}
use Rattle.prices.proofs.Texts.{before}
use Rattle.prices.proofs.list.parse.Given as goal

-- The prices so far and those of the rest are those of the text.
abbrev pub invariant-loop-number : goal.invariant-loop-number
invariant-loop-number l =
    let number = (zip_first l.number-iterator).start in
    let rest = split_inclusive_rest (zip_second l.number-iterator) in
    (before (vec_items l.list) (prices_from number (lines rest)) ≡ prices l.text) × (number ≤ 1025)
