-- What no call changes of the cells below a cache. Assumes nothing.
use Rattle.std.proofs.Common.{◌≡◌, ℕ, ◌-◌, ◌⊎◌, inl, inr, ⊎_elim, List, length, get_or, Ok, Err, Result, refl, sym, ap, ◌∙◌, subst}
use Rattle.memory.specs.declared.fault.Fault.{Fault}
use Rattle.memory.specs.Meaning.{Cell, byte, Meaning}
use Rattle.memory.specs.Reach.{Call, reading, writing, cells_after, Reached}
use Rattle.memory.specs.Calls.{write_answer, stored, written}
use Rattle.memory.specs.Up.{cell_up}
use Rattle.memory.proofs.Calls.{cell_answer_byte, writes_as_reads, written_accepted, written_refused}
use Rattle.memory.proofs.Overlays.{cases_run}
use Rattle.memory.proofs.Reaches.{reached_keeps}
use Rattle.memory.proofs.Writes.{stored_inside, stored_outside, same_size, accepted_each}
use Rattle.mapping.specs.Rules.{Rules}
use Rattle.window.specs.declared.report.WindowReport.{WindowReport}
use Rattle.cache.specs.declared.layer.Cache.{Cache}
use Rattle.call_list.specs.Record.{Recorded}
use Rattle.card.specs.declared.refusal.SetUpRefusal.{SetUpRefusal}
use Rattle.card.specs.Promise.{Ran}
use Rattle.card.specs.OverCache.{cache_cells, CacheCalled, OthersStand}

-- a cell is the same, or it is a byte before and after
record Spared (m n : Meaning) : Type 0 where
  size : n.size ≡ m.size
  cells : (p : ℕ) → ((b : ℕ) × (c : ℕ) × (m.cell p ≡ byte b) × (n.cell p ≡ byte c)) ⊎ (n.cell p ≡ m.cell p)

spared_same : (m : Meaning) → Spared m m
spared_same m = record { size = refl; cells = λ p. inr refl }

spared_more : (m n o : Meaning) → Spared m n → Spared n o → Spared m o
spared_more m n o one two = record {
  size = two.size ∙ one.size;
  cells = λ p. ⊎_elim
      (λ x. ⊎_elim
      (λ y. inl (x.0, y.1, x.2, y.3))
      (λ y. inl (x.0, x.1, x.2, y ∙ x.3))
      (two.cells p))
      (λ x. ⊎_elim
      (λ y. inl (y.0, y.1, sym x ∙ y.2, y.3))
      (λ y. inr (y ∙ x))
      (two.cells p))
      (one.cells p);
}

spared_stored : (m : Meaning) (a : ℕ) (bs : List ℕ) → write_answer m a (length bs) ≡ Ok tt → Spared m (stored m a bs)
spared_stored m a bs ok = record {
  size = same_size m a bs;
  cells = λ p. ⊎_elim
      (λ run.
      let b = cell_answer_byte (m.cell p) (accepted_each m a (length bs) (sym (writes_as_reads m a (length bs)) ∙ ok) p run) in
      inl (_, get_or bs (p - a) 0, b, stored_inside m a bs p run))
      (λ run. inr (stored_outside m a bs p run))
      (cases_run a (length bs) p);
}

spared_call : (m : Meaning) (c : Call) → Spared m (cells_after m c)
spared_call m (reading a b) = spared_same m
spared_call m (writing a bs) = by (write_answer m a (length bs)) refl where
  by : (r : Result (Unit {0}) Fault) → write_answer m a (length bs) ≡ r → Spared m (written m a bs)
  by (Ok u) is = subst (Spared m) (sym (written_accepted m a bs is)) (spared_stored m a bs is)
  by (Err f) is = subst (Spared m) (sym (written_refused m a bs f is)) (spared_same m)

-- a cell that is the same one layer up, and spared, is the same
same_below : (c d : Cell) → ((b : ℕ) × (e : ℕ) × (c ≡ byte b) × (d ≡ byte e)) ⊎ (d ≡ c) → cell_up d ≡ cell_up c → d ≡ c
same_below c d (inl x) up = x.3 ∙ sym (ap cell_up x.3) ∙ up ∙ ap cell_up x.2 ∙ sym x.2
same_below c d (inr e) up = e

module _ {S : Type 0} (meaning : S → Meaning) (coherent : S → Type 0) (R : S → Call → S → Type 0) where
  spared_reached : (c d : Cache S) → Reached (CacheCalled meaning coherent R) c d → Spared (meaning c.below) (meaning d.below)
  spared_reached c d p =
      reached_keeps (CacheCalled meaning coherent R) (λ x y. Spared (meaning x.below) (meaning y.below)) (λ x. spared_same (meaning x.below))
      (λ x y z a called rest. spared_more (meaning x.below) (meaning y.below) (meaning z.below) (subst (Spared (meaning x.below)) (sym called.below) (spared_call (meaning x.below) a)) rest)
      c d p

  -- whatever was set up
  ran_spared : (rules : Rules) (board : ℕ) (c d : Cache S) (outcome : Result WindowReport SetUpRefusal) (cs ds : List Recorded) (set_up : Result (List ℕ) SetUpRefusal) → Ran (cache_cells meaning) (CacheCalled meaning coherent R) rules board c d outcome cs ds set_up → Spared (meaning c.below) (meaning d.below)
  ran_spared rules board c d outcome cs ds (Ok values) ran = spared_reached c d ran.2.reached
  ran_spared rules board c d outcome cs ds (Err refusal) ran = subst (λ x. Spared (meaning c.below) (meaning x.below)) (sym ran.1) (spared_same (meaning c.below))

  pub size_stands : (rules : Rules) (board : ℕ) (c d : Cache S) (outcome : Result WindowReport SetUpRefusal) (cs ds : List Recorded) (set_up : Result (List ℕ) SetUpRefusal) → Ran (cache_cells meaning) (CacheCalled meaning coherent R) rules board c d outcome cs ds set_up → (meaning d.below).size ≡ (meaning c.below).size
  size_stands rules board c d outcome cs ds set_up ran = (ran_spared rules board c d outcome cs ds set_up ran).size

  pub others_stand : (rules : Rules) (board : ℕ) (c d : Cache S) (outcome : Result WindowReport SetUpRefusal) (cs ds : List Recorded) (set_up : Result (List ℕ) SetUpRefusal) → Ran (cache_cells meaning) (CacheCalled meaning coherent R) rules board c d outcome cs ds set_up → OthersStand (meaning c.below) (meaning d.below) set_up rules
  others_stand rules board c d outcome cs ds (Ok values) ran = λ p stands marks.
      same_below ((meaning c.below).cell p) ((meaning d.below).cell p)
      ((ran_spared rules board c d outcome cs ds (Ok values) ran).cells p) (ran.2.others p stands marks)
  others_stand rules board c d outcome cs ds (Err refusal) ran = ap (λ x. meaning x.below) ran.1
