-- A run of an image by its parts: a part begins where the run begins, and where a grain does. Assumes nothing.
-- Part l s n: the n bytes from s on lie in one grain of the image
-- over_parts g f first s n x: x after f, for each part of the n bytes from s on, in order; `first` says that the first byte begins a part
-- pages_of l a n: the page of the data in which each part stands
-- places_of l m a n: where each part stands below, as the walk to its first byte says
-- Spotted l m a n spots: the spots are those of the parts of the run of n bytes at a
use Rattle.std.specs.Prelude.{◌≡◌, ℕ, zero, suc, ◌+◌, ◌%◌, ◌<◌, ◌≤◌, Bool, true, false, cond, ◌||◌, ◌==◌, List, [], ◌∷◌, ◌++◌, map, Ok, Result}
use Rattle.memory.specs.declared.fault.Fault.{Fault}
use Rattle.memory.specs.Meaning.{Meaning}
use Rattle.mapping.specs.Rules.{Layout}
use Rattle.page_table.specs.Walk.{walked}
use Rattle.walk.specs.declared.spot.Spot.{Spot}
use Rattle.walk.specs.Lookup.{page_at}

pub record Part (l : Layout) (s n : ℕ) : Type 0 where
  pub some : 0 < n
  pub grain : s % l.grain + n ≤ l.grain
  pub inside : s + n ≤ l.image_size

unfoldable pub over_parts : {X : Type 0} → ℕ → (ℕ → X → X) → Bool → ℕ → ℕ → X → X
over_parts g f first s zero x = x
over_parts g f first s (suc n) x = over_parts g f false (suc s) n (cond (first || s % g == 0) (f s x) x)

abbrev pub and_then : {A : Type 0} → (ℕ → A) → ℕ → List A → List A
and_then f s xs = xs ++ (f s ∷ [])

abbrev pub pages_of : Layout → ℕ → ℕ → List ℕ
pages_of l a n = over_parts l.grain (and_then (page_at l)) true a n []

abbrev pub places_of : Layout → Meaning → ℕ → ℕ → List (Result ℕ Fault)
places_of l m a n = over_parts l.grain (and_then (walked l m)) true a n []

pub record Spotted (l : Layout) (m : Meaning) (a n : ℕ) (spots : List Spot) : Type 0 where
  pub pages : map (λ spot. spot.page) spots ≡ pages_of l a n
  pub places : map (λ spot. Ok spot.address.0) spots ≡ places_of l m a n
