-- The states between the calls of a list. Assumes nothing.
use Rattle.std.proofs.Common.{◌≡◌, ℕ, zero, suc, List, [], ◌∷◌, take, drop, refl, sym, ap, ◌∙◌, subst}
use Rattle.memory.specs.Meaning.{Meaning}
use Rattle.memory.specs.Reach.{Call, Linked, after_calls, Step}
use Rattle.call_list.specs.Model.{model}
use Rattle.call_list.specs.Follow.{Between}

-- the state between any two calls
pub linked_at : {S : Type 0} (R : S → Call → S → Type 0) (s t : S) (cs : List Call) (k : ℕ) → Linked R s cs t → (u : S) × Linked R s (take k cs) u × Linked R u (drop k cs) t
unfolding Linked
linked_at R s t cs zero l = (s, refl, l)
linked_at R s t [] (suc k) l = (t, l, refl)
linked_at R s t (c ∷ cs) (suc k) l =
    let rest = linked_at R l.0 t cs k l.2 in
    (rest.0, (l.0, l.1, rest.1), rest.2)

module _ {S : Type 0} (meaning : S → Meaning) (coherent : S → Type 0) (R : S → Call → S → Type 0) where
  -- and what it means
  pub linked_model : (s t : S) (cs : List Call) → Linked (Step meaning coherent R) s cs t → meaning t ≡ model (meaning s) cs
  unfolding Linked after_calls
  linked_model s t [] e = ap meaning (sym e)
  linked_model s t (c ∷ cs) l = linked_model l.0 t cs l.2 ∙ ap (λ m. model m cs) l.1.cells

  linked_coherent : (s t : S) (cs : List Call) → coherent s → Linked (Step meaning coherent R) s cs t → coherent t
  unfolding Linked
  linked_coherent s t [] c e = subst coherent e c
  linked_coherent s t (d ∷ cs) c l = linked_coherent l.0 t cs l.1.kept l.2

  -- what no call changes, a list does not
  pub linked_keeps : {X : Type 0} (f : S → X) → ((s t : S) (c : Call) → R s c t → f t ≡ f s) → (s t : S) (cs : List Call) → Linked (Step meaning coherent R) s cs t → f t ≡ f s
  unfolding Linked
  linked_keeps f kept s t [] e = ap f (sym e)
  linked_keeps f kept s t (c ∷ cs) l = linked_keeps f kept l.0 t cs l.2 ∙ kept s l.0 c l.1.step

  pub between : (s t : S) (cs : List Call) → coherent s → Linked (Step meaning coherent R) s cs t → (k : ℕ) → Between meaning coherent R s cs k t
  between s t cs c l k =
      let u = linked_at (Step meaning coherent R) s t cs k l in
      record {
        state = u.0;
        cells = linked_model s u.0 (take k cs) u.1;
        kept = linked_coherent s u.0 (take k cs) c u.1;
        before = u.1;
        after = u.2;
      }
