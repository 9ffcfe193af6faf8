-- A buffer of which nothing was filled, and a store of nothing. Assumes nothing.
use Rattle.std.proofs.Common.{◌≡◌, ℕ, List, ◌++◌, take, drop, sym, ap, ◌∙◌}
use Rattle.memory.specs.Meaning.{Cell, Meaning}
use Rattle.memory.specs.Calls.{bytes, stored}
use Rattle.memory.proofs.Writes.{stored_none}
use Rattle.span.proofs.Parts.{filled_none}

pub filled_nothing : (c : ℕ → Cell) (a n : ℕ) (b : List ℕ) → n ≡ 0 → b ≡ bytes c a n ++ drop n b
filled_nothing c a n b none = filled_none c a b ∙ ap (λ k. bytes c a k ++ drop k b) (sym none)

pub stored_nothing : (m : Meaning) (a n : ℕ) (bs : List ℕ) → n ≡ 0 → m ≡ stored m a (take n bs)
stored_nothing m a n bs none = sym (stored_none m a) ∙ ap (λ k. stored m a (take k bs)) (sym none)
