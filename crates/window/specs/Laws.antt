-- The meaning of a window is well formed. Assumes nothing.
use Rattle.std.specs.Prelude.{◌≡◌, ℕ, zero, suc, ◌+◌, ◌*◌, ◌/◌, ◌%◌, ◌^◌, ◌<◌, ◌≤◌, Bool, true, false, cond, Some, None, Ok, Err, Option, Result, refl}
use Rattle.std.proofs.Common.{sym, ap, ◌∙◌, subst, arith, lit≤}
use Rattle.std.specs.Result.{result_and, result_map_both}
use Rattle.memory.specs.declared.fault.Cause.{Cause}
use Rattle.memory.specs.declared.fault.Cause.TheVariants.{Blank, NoPage, PageOut}
use Rattle.memory.specs.declared.fault.Fault.{Fault}
use Rattle.memory.specs.Fault.{cause_number, here, passed_up}
use Rattle.memory.specs.Meaning.{Cell, byte, fault, Meaning, InRange, FaultInRange, WellFormed}
use Rattle.memory.specs.Calls.{cell_answer, first_fault}
use Rattle.memory.specs.Up.{cell_up_in_range}
use Rattle.mapping.specs.Rules.{Layout}
use Rattle.page_table.specs.declared.entry.Entry.{Entry}
use Rattle.page_table.specs.declared.tlb.Tlb.{Tlb}
use Rattle.page_table.specs.Table.{table_of, entry_address, entry_at, entry_read, frame_in, Live}
use Rattle.page_table.specs.Walk.{through, walked_from, cell_behind, viewed, windowed, shown}
use Rattle.page_table.specs.Ready.{Ready}
use Rattle.walk.proofs.Walks.{table_inside}

-- the fault of a run is that of one of its cells
fault_of : (cell : ℕ → Cell) (a n : ℕ) (f : Fault) → first_fault cell a n ≡ Err f → (i : ℕ) × (a ≤ i) × (i < a + n) × (cell i ≡ fault f)
unfolding first_fault
fault_of cell a zero f e = absurd cc
fault_of cell a (suc n) f e = at (cell a) refl e (fault_of cell (suc a) n f) where
  at : (c : Cell) → cell a ≡ c → result_and (cell_answer c) (first_fault cell (suc a) n) ≡ Err f → (first_fault cell (suc a) n ≡ Err f → (i : ℕ) × (suc a ≤ i) × (i < suc a + n) × (cell i ≡ fault f)) → (i : ℕ) × (a ≤ i) × (i < a + suc n) × (cell i ≡ fault f)
  at (byte b) is e rest = let r = rest e in (r.0, omega (arith, r.1), omega (arith, r.2), r.3)
  at (fault d) is e rest = let same : d ≡ f = cc in (a, omega arith, omega arith, is ∙ ap fault same)

mapped_err : {A B : Type 0} (x : A → B) (r : Result A Fault) (f : Fault) → result_map_both x passed_up r ≡ Err f → (d : Fault) × (r ≡ Err d) × (f ≡ passed_up d)
mapped_err x (Ok a) f e = absurd cc
mapped_err x (Err d) f e = (d, refl, cc)

here_in_range : (c : Cause) (s : ℕ) → 3 ≤ cause_number c → cause_number c ≤ 255 → s < 2 ^ 64 → FaultInRange (here c s)
here_in_range c s low high small = record { cause_low = low; cause_high = high; depth = omega arith; place = small }

module _ (l : Layout) (m : Meaning) (h : Tlb) (ready : Ready l m h) (s : ℕ) (low : s < l.image_size) where
  small : s < 2 ^ 64
  small = let image : l.image_size < 2 ^ 32 = ready.lawful.image_low in omega arith

  framed : (v k : ℕ) (e : Entry) → k < (table_of l).entries → entry_read m (entry_address (table_of l) k) ≡ Ok e → InRange (cell_behind m (through s v (Ok e)))
  framed v k e few is = by e.valid e.out refl refl where
    by : (valid out : Bool) → e.valid ≡ valid → e.out ≡ out → InRange (cell_behind m (result_map_both (λ f. f * 4096 + v % 4096) (λ c. here c s) (cond valid (cond out (Err PageOut) (Ok e.frame)) (Err NoPage))))
    by true true a b = here_in_range PageOut s (lit≤ tt) (lit≤ tt) small
    by true false a b =
        let live : Live (table_of l) m k e.frame = record { low = few; frame = ap frame_in is ∙ rw (a, b) refl } in
        let p : e.frame < m.size / 4096 = ready.table.below k e.frame live in
        let inside : e.frame * 4096 + v % 4096 < m.size = omega arith in
        cell_up_in_range (m.cell (e.frame * 4096 + v % 4096)) (ready.formed.cells _ inside)
    by false out a b = here_in_range NoPage s (lit≤ tt) (lit≤ tt) small

  refused : (k : ℕ) → k < (table_of l).entries → (f : Fault) → entry_read m (entry_address (table_of l) k) ≡ Err f → FaultInRange f
  unfolding entry_read
  refused k few f is =
      let a : ℕ = entry_address (table_of l) k in
      let r = mapped_err (λ _. entry_at m a) (first_fault m.cell a 4) f is in
      let c = fault_of m.cell a 4 r.0 r.1 in
      let inside : c.0 < m.size = omega (arith, table_inside (table_of l) m ready.table k few, c.1, c.2) in
      let range : InRange (m.cell c.0) = ready.formed.cells c.0 inside in
      subst FaultInRange (sym r.2) (cell_up_in_range (fault r.0) (subst InRange c.3 range))

  reached : (p : Option ℕ) → l.place s ≡ p → InRange (cell_behind m (walked_from (table_of l) m s p))
  reached None e = here_in_range Blank s (lit≤ tt) (lit≤ tt) small
  reached (Some v) e = by (entry_read m (entry_address (table_of l) (v / 4096))) refl where
    few : v / 4096 < (table_of l).entries
    few = let far = ready.lawful.within s v e in omega (arith, far.1)

    by : (r : Result Entry Fault) → entry_read m (entry_address (table_of l) (v / 4096)) ≡ r → InRange (cell_behind m (through s v r))
    by (Ok d) is = framed v (v / 4096) d few is
    by (Err f) is = refused (v / 4096) few f is

  viewed_in_range : InRange (viewed l m s)
  unfolding viewed
  viewed_in_range = reached (l.place s) refl

windowed_formed : (l : Layout) (m : Meaning) (h : Tlb) → Ready l m h → WellFormed (windowed l m)
windowed_formed l m h ready = record {
  lines = ready.lawful.image_lines;
  most = let image : l.image_size < 2 ^ 32 = ready.lawful.image_low in omega arith;
  cells = λ s low. viewed_in_range l m h ready s low;
}

pub shown_formed : (is_open : Bool) (l : Layout) (m : Meaning) (h : Tlb) → (is_open ≡ true → Ready l m h) → WellFormed (shown is_open l m)
shown_formed true l m h ready = windowed_formed l m h (ready refl)
shown_formed false l m h ready = record { lines = refl; most = omega arith; cells = λ s low. absurd (omega arith) }
