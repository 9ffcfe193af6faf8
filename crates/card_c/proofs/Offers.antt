-- The writes that values ask for, as far as the values were looked at. Assumes nothing.
use Rattle.std.proofs.Common.{◌≡◌, ℕ, suc, ◌+◌, ◌<◌, ◌≤◌, List, [], ◌∷◌, ◌++◌, length, take, drop, get_or, set, refl, sym, ap, ◌∙◌, append_assoc, add-one}
use Rattle.std.proofs.lemmas.Bool.{cond-false, ne_eqb}
use Rattle.std.proofs.lemmas.List.{take_more_set, drop_all, append-nil}
use Rattle.std.proofs.Math.Seq.{drop-cons}
use Rattle.card.specs.declared.refusal.RegisterWrite.{RegisterWrite}
use Rattle.card_c.specs.Setup.{offered}

module _ (whole ws : List RegisterWrite) (vs : List ℕ) (count i : ℕ) (so_far : whole ≡ take count ws ++ offered i (drop i vs)) where
  pub offered_skipped : i < length vs → get_or vs i 0 ≡ 0 → whole ≡ take count ws ++ offered (i + 1) (drop (i + 1) vs)
  unfolding offered
  offered_skipped low is = so_far ∙ ap (λ xs. take count ws ++ offered i xs) (drop-cons vs i 0 low) ∙ rw (add-one, is) refl

  pub offered_more : i < length vs → (get_or vs i 0 ≡ 0 → ⊥) → count < length ws → whole ≡ take (count + 1) (set ws count (record { number = i; value = get_or vs i 0 })) ++ offered (i + 1) (drop (i + 1) vs)
  unfolding offered
  offered_more low some room =
      so_far
      ∙ ap (λ xs. take count ws ++ offered i xs) (drop-cons vs i 0 low)
      ∙ ap (λ xs. take count ws ++ xs) (cond-false _ _ _ (ne_eqb (get_or vs i 0) 0 some))
      ∙ rw add-one (sym (append_assoc (take count ws) (record { number = i; value = get_or vs i 0 } ∷ []) (offered (suc i) (drop (suc i) vs))))
      ∙ ap (λ xs. xs ++ offered (i + 1) (drop (i + 1) vs)) (sym (take_more_set ws count (record { number = i; value = get_or vs i 0 }) room))

  pub offered_all : length vs ≤ i → whole ≡ take count ws
  unfolding offered
  offered_all high = so_far ∙ rw (drop_all i vs high) (append-nil (take count ws))
