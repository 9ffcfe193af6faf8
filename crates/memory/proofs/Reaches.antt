-- States that calls lead to: none, one, one list after the other. Assumes nothing.
use Rattle.std.proofs.Common.{ℕ, List, [], ◌∷◌, ◌++◌, sym, refl, subst}
use Rattle.memory.specs.Reach.{Call, reading, writing, Linked, Reached, AllReads, OnlyRead}

all_reads_append : (cs ds : List Call) → AllReads cs → AllReads ds → AllReads (cs ++ ds)
unfolding AllReads
all_reads_append [] ds first rest = rest
all_reads_append (reading a b ∷ cs) ds first rest = all_reads_append cs ds first rest
all_reads_append (writing a bs ∷ cs) ds first rest = first

module _ {S : Type 0} (R : S → Call → S → Type 0) where
  pub linked_none : (s : S) → Linked R s [] s
  unfolding Linked
  linked_none s = refl

  pub linked_one : (s t : S) (c : Call) → R s c t → Linked R s (c ∷ []) t
  unfolding Linked
  linked_one s t c r = (t, r, refl)

  pub linked_append : (s t u : S) (cs ds : List Call) → Linked R s cs t → Linked R t ds u → Linked R s (cs ++ ds) u
  unfolding Linked
  linked_append s t u [] ds first rest = subst (λ x. Linked R x ds u) (sym first) rest
  linked_append s t u (c ∷ cs) ds first rest = (first.0, first.1, linked_append first.0 t u cs ds first.2 rest)

  pub reached_none : (s : S) → Reached R s s
  reached_none s = record { calls = []; linked = linked_none s }

  pub reached_one : {s t : S} (c : Call) → R s c t → Reached R s t
  reached_one {s} {t} c r = record { calls = c ∷ []; linked = linked_one s t c r }

  pub reached_more : {s t u : S} → Reached R s t → Reached R t u → Reached R s u
  reached_more {s} {t} {u} p q = record { calls = p.calls ++ q.calls; linked = linked_append s t u p.calls q.calls p.linked q.linked }

  pub only_read_none : (s : S) → OnlyRead R s s
  unfolding AllReads
  only_read_none s = record { calls = []; linked = linked_none s; reads = tt }

  pub only_read_one : {s t : S} (a : ℕ) (b : List ℕ) → R s (reading a b) t → OnlyRead R s t
  unfolding AllReads
  only_read_one {s} {t} a b r = record { calls = reading a b ∷ []; linked = linked_one s t (reading a b) r; reads = tt }

  -- a state that reads alone lead to is reached
  pub only_reached : {s t : S} → OnlyRead R s t → Reached R s t
  only_reached {s} {t} p = record { calls = p.calls; linked = p.linked }

  pub only_read_more : {s t u : S} → OnlyRead R s t → OnlyRead R t u → OnlyRead R s u
  only_read_more {s} {t} {u} p q = record {
    calls = p.calls ++ q.calls;
    linked = linked_append s t u p.calls q.calls p.linked q.linked;
    reads = all_reads_append p.calls q.calls p.reads q.reads;
  }

  -- what each step carries over is carried over from end to end
  pub reached_keeps : (K : S → S → Type 0) → ((s : S) → K s s) → ((s t u : S) (c : Call) → R s c t → K t u → K s u) → (s t : S) → Reached R s t → K s t
  unfolding Linked
  reached_keeps K same step s t p = along s p.calls p.linked where
    along : (x : S) (cs : List Call) → Linked R x cs t → K x t
    along x [] e = subst (K x) e (same x)
    along x (c ∷ cs) l = step x l.0 t c l.1 (along l.0 cs l.2)
