-- The writes that were made so far, and those that are left. Assumes nothing.
use Rattle.std.proofs.Common.{◌≡◌, ℕ, ◌+◌, ◌*◌, ◌<◌, ◌≤◌, cond, List, [], ◌∷◌, ◌++◌, length, get_or, drop, is_ok, Ok, Err, sym, refl, ap, ◌∙◌, subst}
use Rattle.std.proofs.lemmas.List.{at_drop_more, at_drop_all, append_assoc, append-nil}
use Rattle.memory.specs.declared.fault.Fault.{Fault}
use Rattle.memory.specs.Meaning.{Meaning}
use Rattle.memory.specs.Calls.{write_answer}
use Rattle.memory.specs.Reach.{Call, writing, Linked}
use Rattle.memory.proofs.Reaches.{linked_none, linked_one, linked_append}
use Rattle.records.specs.Record.{record_of}
use Rattle.records.specs.Column.{record_writes}

-- calls lead from s to t, and with the writes of the records from i on they are all
pub record Made {S : Type 0} (R : S → Call → S → Type 0) (m : Meaning) (ps : List ℕ) (s t : S) (i : ℕ) : Type 0 where
  pub calls : List Call
  pub linked : Linked R s calls t
  pub whole : calls ++ record_writes m i (drop i ps) ≡ record_writes m 0 ps

module _ {S : Type 0} (R : S → Call → S → Type 0) (m : Meaning) (ps : List ℕ) where
  pub made_none : (s : S) → Made R m ps s s 0
  made_none s = record { calls = []; linked = linked_none R s; whole = refl }

  pub made_all : {s t : S} {i : ℕ} → Made R m ps s t i → length ps ≤ i → Linked R s (record_writes m 0 ps) t
  unfolding record_writes
  made_all {s} {t} {i} made past =
      let none : record_writes m i (drop i ps) ≡ [] = at_drop_all (record_writes m i) ps i past in
      subst (λ cs. Linked R s cs t) (sym (append-nil made.calls) ∙ ap (λ rest. made.calls ++ rest) (sym none) ∙ made.whole) made.linked

  -- the write of the record i, as it was made
  module _ {s t u : S} {i address : ℕ} {bs : List ℕ} (made : Made R m ps s t i) (low : i < length ps) (at : address ≡ i * 128) (is : bs ≡ record_of (get_or ps i 0)) (step : R t (writing address bs) u) where
    next : Call
    next = writing (i * 128) (record_of (get_or ps i 0))

    left : record_writes m i (drop i ps) ≡ next ∷ cond (is_ok (write_answer m (i * 128) 128)) (record_writes m (i + 1) (drop (i + 1) ps)) []
    unfolding record_writes next
    left = at_drop_more (record_writes m i) ps i 0 low

    longer : Linked R s (made.calls ++ (next ∷ [])) u
    unfolding next
    longer =
        let here : R t (writing (i * 128) (record_of (get_or ps i 0))) u =
        subst (λ a. R t (writing a (record_of (get_or ps i 0))) u) at (subst (λ b. R t (writing address b) u) is step) in
        linked_append R s t u made.calls (writing (i * 128) (record_of (get_or ps i 0)) ∷ []) made.linked (linked_one R t u _ here)

    pub made_more : write_answer m (i * 128) 128 ≡ Ok tt → Made R m ps s u (i + 1)
    made_more ok = record {
      calls = made.calls ++ (next ∷ []);
      linked = longer;
      whole =
          append_assoc made.calls (next ∷ []) (record_writes m (i + 1) (drop (i + 1) ps))
          ∙ ap (λ rest. made.calls ++ rest) (sym (left ∙ ap (λ r. next ∷ cond (is_ok r) (record_writes m (i + 1) (drop (i + 1) ps)) []) ok))
          ∙ made.whole;
    }

    pub made_refused : (f : Fault) → write_answer m (i * 128) 128 ≡ Err f → Linked R s (record_writes m 0 ps) u
    made_refused f e =
        subst (λ cs. Linked R s cs u)
        (ap (λ rest. made.calls ++ rest) (sym (left ∙ ap (λ r. next ∷ cond (is_ok r) (record_writes m (i + 1) (drop (i + 1) ps)) []) e)) ∙ made.whole)
        longer
