-- What the owner of borrowed bytes knows of a state that calls lead to. Assumes nothing.
use Rattle.std.proofs.Common.{ℕ, List, [], ◌∷◌, sym, ap, ◌∙◌, subst}
use Rattle.std.specs.Borrow.{MutBor}
use Rattle.memory.specs.Bytes.{Over}
use Rattle.memory.specs.Reach.{Call, Linked, Reached, after_calls}
use Rattle.memory.proofs.Reaches.{reached_keeps}

-- a state that borrows bytes, each call of which leaves those that the second parameter says
module _ {S : Type 0} (bytes : S → MutBor (List ℕ)) (called : List ℕ → Call → List ℕ) where
  abbrev pub OverStep : S → Call → S → Type 0
  OverStep s c t = Over (bytes t) (called (bytes s).now c) (bytes s)

  pub linked_over : (s t : S) (cs : List Call) → Linked OverStep s cs t → Over (bytes t) (after_calls called (bytes s).now cs) (bytes s)
  unfolding Linked after_calls
  linked_over s t [] e = record { holds = ap (λ x. (bytes x).now) (sym e); owner = ap (λ x. (bytes x).ghost_name) (sym e) }
  linked_over s t (c ∷ cs) l =
      let rest = linked_over l.0 t cs l.2 in
      record { holds = rest.holds ∙ ap (λ xs. after_calls called xs cs) l.1.holds; owner = rest.owner ∙ l.1.owner }

  -- what every call keeps of the bytes is kept
  pub reached_bytes : (K : List ℕ → List ℕ → Type 0) → ((xs : List ℕ) → K xs xs) → ((xs ys : List ℕ) (c : Call) → K (called xs c) ys → K xs ys) → (s t : S) → Reached OverStep s t → K (bytes s).now (bytes t).now
  reached_bytes K same step s t p =
      reached_keeps OverStep (λ x y. K (bytes x).now (bytes y).now) (λ x. same _)
      (λ x y z c o k. step _ _ c (subst (λ xs. K xs (bytes z).now) o.holds k)) s t p
