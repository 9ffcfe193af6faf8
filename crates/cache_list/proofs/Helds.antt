-- Which lines are held after a list of calls, which of them are prefetched, and which was kept last. Assumes nothing.
use Rattle.std.proofs.Common.{◌≡◌, ℕ, zero, suc, ◌+◌, ◌<◌, ◌⊎◌, List, [], ◌∷◌, slice_get, Some, refl, inl, inr, ⊎_elim, subst, arith}
use Rattle.std.specs.Prelude.{◌↔◌}
use Rattle.memory.specs.Reach.{Call, after_calls}
use Rattle.cache_list.specs.Behind.{Behind, call_behind}
use Rattle.cache_list.specs.Held.{ReadOf, Held, IsPrefetched, Newest, Prefetches, Keeps, Drops, Covers, Leaves, Uncovers, CallAt, Stays, Since, LawOf, HeldLaw}
use Rattle.cache_list.proofs.Once.{Two_ways, held_once, prefetched_once, newest_once, two_ways_once}

module _ (x : Behind) (c : Call) (cs : List Call) where
  -- the first call, and one of the others
  module _ (Sort : Behind → Call → Type 0) where
    at_first : Sort x c → CallAt Sort x (c ∷ cs) 0
    unfolding after_calls
    at_first s = record { call = c; at = refl; sort = s }

    first_at : CallAt Sort x (c ∷ cs) 0 → Sort x c
    unfolding after_calls
    first_at a = subst (Sort x) (same a.call a.at) a.sort where
      same : (d : Call) → slice_get (c ∷ cs) 0 ≡ Some d → d ≡ c
      same d e = cc

    at_later : (i : ℕ) → CallAt Sort (call_behind x c) cs i → CallAt Sort x (c ∷ cs) (suc i)
    unfolding after_calls
    at_later i a = record { call = a.call; at = a.at; sort = a.sort }

    later_at : (i : ℕ) → CallAt Sort x (c ∷ cs) (suc i) → CallAt Sort (call_behind x c) cs i
    unfolding after_calls
    later_at i a = record { call = a.call; at = a.at; sort = a.sort }

  module _ (Ends : Behind → Call → Type 0) where
    stays_later : (i k : ℕ) → Stays Ends (call_behind x c) cs i k → Stays Ends x (c ∷ cs) (suc i) (suc k)
    stays_later i k stays zero low high = absurd (omega (arith, low))
    stays_later i k stays (suc j) low high = λ a. stays j (omega (arith, low)) (omega (arith, high)) (later_at Ends j a)

    later_stays : (i k : ℕ) → Stays Ends x (c ∷ cs) (suc i) (suc k) → Stays Ends (call_behind x c) cs i k
    later_stays i k stays j low high a = stays (suc j) (omega (arith, low)) (omega (arith, high)) (at_later Ends j a)

    stays_all : (k : ℕ) → (Ends x c → ⊥) → Stays Ends (call_behind x c) cs 0 k → Stays Ends x (c ∷ cs) 0 (suc k)
    stays_all k here stays zero low high = λ a. here (first_at Ends a)
    stays_all k here stays (suc j) low high = stays_later 0 k stays (suc j) (omega arith) high

  module _ (P : Behind → Type 0) (Begins Ends : Behind → Call → Type 0) (once : P (call_behind x c) ↔ (Begins x c ⊎ (P x × (Ends x c → ⊥)))) (k : ℕ) where
    since_more : Since P Begins Ends (call_behind x c) cs k → Since P Begins Ends x (c ∷ cs) (suc k)
    since_more = ⊎_elim
        (λ h. ⊎_elim
        (λ w. inr (0, omega arith, at_first Begins w, stays_later Ends 0 k h.1))
        (λ w. inl (w.0, stays_all Ends k w.1 h.1))
        (once.0 h.0))
        (λ h. inr (suc h.0, omega (arith, h.1), at_later Begins h.0 h.2, λ j low high. stays_later Ends (h.0 + 1) k h.3 j (omega (arith, low)) high))

    since_less : Since P Begins Ends x (c ∷ cs) (suc k) → Since P Begins Ends (call_behind x c) cs k
    since_less = ⊎_elim
        (λ h. inl (
          once.1 (inr (h.0, λ l. h.1 0 (omega arith) (omega arith) (at_first Ends l))),
          later_stays Ends 0 k (λ j low high. h.1 j (omega arith) high),
        ))
        (λ h. begun h.0 h.1 h.2 h.3) where
          begun : (i : ℕ) → i < suc k → CallAt Begins x (c ∷ cs) i → Stays Ends x (c ∷ cs) (i + 1) (suc k) → Since P Begins Ends (call_behind x c) cs k
          begun zero low a stays = inl (once.1 (inl (first_at Begins a)), later_stays Ends 0 k stays)
          begun (suc i) low a stays = inr (i, omega (arith, low), later_at Begins i a, later_stays Ends (i + 1) k (λ j from to. stays j (omega (arith, from)) to))

-- a law of one call is one of the list
module _ (P : Behind → Type 0) (Begins Ends : Behind → Call → Type 0) (once : (x : Behind) (c : Call) → Two_ways x → P (call_behind x c) ↔ (Begins x c ⊎ (P x × (Ends x c → ⊥)))) where
  law_of : (x : Behind) (cs : List Call) → Two_ways x → LawOf P Begins Ends x cs
  unfolding after_calls
  law_of x cs two zero low = (λ e. inl (e, λ j a b. absurd (omega (arith, a, b))), ⊎_elim (λ h. h.0) (λ h. absurd (omega (arith, h.1))))
  law_of x [] two (suc k) low = absurd (omega (arith, low))
  law_of x (c ∷ cs) two (suc k) low =
      let rest = law_of (call_behind x c) cs (two_ways_once x c two) k (omega (arith, low)) in
      (λ e. since_more x c cs P Begins Ends (once x c two) k (rest.0 e), λ h. rest.1 (since_less x c cs P Begins Ends (once x c two) k h))

pub held_law : (x : Behind) (cs : List Call) → Two_ways x → HeldLaw x cs
held_law x cs two = record {
  held = λ n. law_of (Held n) (Keeps n) (Leaves n) (held_once n) x cs two;
  prefetched = λ n. law_of (IsPrefetched n) (Prefetches n) (λ y c. ReadOf n y c ⊎ Leaves n y c) (prefetched_once n) x cs two;
  newest = λ n. law_of (Newest n) (λ y c. Keeps n y c ⊎ Uncovers n y c) (λ y c. Drops n y c ⊎ Covers n y c) (newest_once n) x cs two;
}
