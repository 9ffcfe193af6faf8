-- A part of a grain stands in one piece below. Assumes nothing.
use Rattle.std.proofs.Common.{◌≡◌, ℕ, zero, suc, ◌+◌, ◌*◌, ◌/◌, ◌%◌, ◌<◌, ◌≤◌, Bool, true, false, cond, List, length, is_ok, Some, None, Ok, Err, Option, Result, sym, refl, ap, ◌∙◌, add-zero, div-add-mod', arith}
use Rattle.std.specs.Option as options
use Rattle.std.specs.Result.{result_and, result_map_both}
use Rattle.memory.specs.declared.fault.Cause.TheVariants.{NoPage, PageOut}
use Rattle.memory.specs.declared.fault.Fault.{Fault}
use Rattle.memory.specs.Fault.{here, passed_up, from_below}
use Rattle.walk.specs.declared.spot.Spot.{Spot}
use Rattle.memory.specs.Meaning.{Cell, byte, fault, Meaning}
use Rattle.memory.specs.Calls.{cell_answer, first_fault, value, bytes, read_answer, delivered}
use Rattle.memory.proofs.Runs.{check_run_ok}
use Rattle.memory.proofs.Calls.{answer_inside, first_fault_at_once}
use Rattle.memory.specs.Up.{cell_up}
use Rattle.mapping.specs.Rules.{Layout}
use Rattle.mapping.specs.Laws.{Lawful}
use Rattle.page_table.specs.declared.entry.Entry.{Entry}
use Rattle.page_table.specs.declared.tlb.Tlb.{Tlb}
use Rattle.page_table.specs.Entry.{is_live}
use Rattle.page_table.specs.Table.{table_of, entry_address, entry_read, Live, GoodTable}
use Rattle.page_table.specs.Walk.{through, walked_from, walked, cell_behind, viewed}
use Rattle.page_table.specs.Ready.{Ready}
use Rattle.transfer.specs.Parts.{Part}

-- an entry that leads on is live, and leads on for every address of its page
pub record Leads (r : Result Entry Fault) (v p : ℕ) : Type 0 where
  pub entry : Entry
  pub is : r ≡ Ok entry
  pub live : is_live entry ≡ true
  pub place : p ≡ entry.frame * 4096 + v % 4096
  pub others : (s w : ℕ) → through s w r ≡ Ok (entry.frame * 4096 + w % 4096)

pub leads : (s v p : ℕ) (r : Result Entry Fault) → through s v r ≡ Ok p → Leads r v p
leads s v p (Err f) e = absurd cc
leads s v p (Ok d) e = by d.valid d.out refl refl e where
  by : (valid out : Bool) → d.valid ≡ valid → d.out ≡ out → result_map_both (λ f. f * 4096 + v % 4096) (λ c. here c s) (cond valid (cond out (Err PageOut) (Ok d.frame)) (Err NoPage)) ≡ Ok p → Leads (Ok d) v p
  by true true a b e = absurd cc
  by true false a b e = record { entry = d; is = refl; live = rw (a, b) refl; place = cc; others = λ s w. rw (a, b) refl }
  by false out a b e = absurd cc

shifted : (o : Option ℕ) (k i v : ℕ) → options.option_map (λ w. w + k) o ≡ Some v → (w : ℕ) × (o ≡ Some w) × (v ≡ w + k) × (options.option_map (λ w. w + (k + i)) o ≡ Some (v + i))
shifted None k i v e = absurd cc
shifted (Some w) k i v e = let same : w + k ≡ v = cc in (w, refl, sym same, ap Some (omega arith))

module _ (l : Layout) (laws : Lawful l) (s n v : ℕ) (part : Part l s n) (at : l.place s ≡ Some v) where
  pub grain_follows : (i : ℕ) → i < n → (l.place (s + i) ≡ Some (v + i)) × (v % 128 + n ≤ 128)
  grain_follows i low =
      let g : ℕ = l.grain in
      let k : ℕ = s / g in
      let o : ℕ = s % g in
      let split : k * g + o ≡ s = div-add-mod' s g in
      let inside : o < g = omega (arith, part.grain, part.some) in
      let first : options.option_map (λ w. w + o) (l.place (k * g)) ≡ Some v = sym (laws.grained.follows k o inside) ∙ ap l.place split ∙ at in
      let sh = shifted (l.place (k * g)) o i v first in
      let line : sh.0 % 128 + g ≤ 128 = laws.grained.line k sh.0 sh.1 in
      let at2 : s + i ≡ k * g + (o + i) = omega arith in
      let same : v ≡ sh.0 + o = sh.2 in
      (ap l.place at2 ∙ laws.grained.follows k (o + i) (omega (arith, part.grain)) ∙ sh.3, omega (arith, part.grain))

-- the place and the entry by which a walk leads on
pub record Stands (l : Layout) (m : Meaning) (s p : ℕ) : Type 0 where
  pub place : ℕ
  pub at : l.place s ≡ Some place
  pub lead : Leads (entry_read m (entry_address (table_of l) (place / 4096))) place p
  pub low : place / 4096 < (table_of l).entries

pub stands : (l : Layout) → Lawful l → (m : Meaning) (s p : ℕ) → walked l m s ≡ Ok p → Stands l m s p
stands l laws m s p e = by (l.place s) refl e where
  by : (o : Option ℕ) → l.place s ≡ o → walked_from (table_of l) m s o ≡ Ok p → Stands l m s p
  by None at e = absurd cc
  by (Some v) at e =
      let far = laws.within s v at in
      record { place = v; at = at; lead = leads s v p (entry_read m (entry_address (table_of l) (v / 4096))) e; low = omega (arith, far.1) }

-- a live entry of the table, by its number and its frame
pub live_at : (l : Layout) (m : Meaning) (s p : ℕ) (x : Stands l m s p) → Live (table_of l) m (x.place / 4096) x.lead.entry.frame
live_at l m s p x = record { low = x.low; frame = rw (x.lead.is, x.lead.live) refl }

-- where the first byte of a part stands, the others follow
module _ (l : Layout) (laws : Lawful l) (m : Meaning) (s n p : ℕ) (part : Part l s n) where
  pub walked_follows : walked l m s ≡ Ok p → (i : ℕ) → i < n → walked l m (s + i) ≡ Ok (p + i)
  walked_follows e i low =
      let x = stands l laws m s p e in
      let v : ℕ = x.place in
      let next = grain_follows l laws s n v part x.at i low in
      let line : v % 128 + n ≤ 128 = next.1 in
      let page : (v + i) / 4096 ≡ v / 4096 = omega arith in
      let off : (v + i) % 4096 ≡ v % 4096 + i = omega arith in
      let is : p ≡ x.lead.entry.frame * 4096 + v % 4096 = x.lead.place in
      ap (walked_from (table_of l) m (s + i)) next.0
      ∙ ap (λ k. through (s + i) (v + i) (entry_read m (entry_address (table_of l) k))) page
      ∙ x.lead.others (s + i) (v + i)
      ∙ ap Ok (omega arith)

  -- the run below is one that the memory takes
  pub walked_inside : GoodTable (table_of l) m → walked l m s ≡ Ok p → (p % 128 + n ≤ 128) × (p + n ≤ m.size)
  walked_inside good e =
      let x = stands l laws m s p e in
      let v : ℕ = x.place in
      let line : v % 128 + n ≤ 128 = (grain_follows l laws s n v part x.at 0 part.some).1 in
      let low : x.lead.entry.frame < m.size / 4096 = good.below (v / 4096) x.lead.entry.frame (live_at l m s p x) in
      let is : p ≡ x.lead.entry.frame * 4096 + v % 4096 = x.lead.place in
      (omega arith, omega arith)

-- a run of cells that are those of another run, passed up
module _ (c d : ℕ → Cell) where
  split_up : (x : Cell) (r : Result (Unit {0}) Fault) → result_and (cell_answer (cell_up x)) (result_map_both (λ u. u) passed_up r) ≡ result_map_both (λ u. u) passed_up (result_and (cell_answer x) r)
  split_up (byte b) r = refl
  split_up (fault f) r = refl

  pub faults_up : (a b n : ℕ) → ((i : ℕ) → i < n → c (a + i) ≡ cell_up (d (b + i))) → first_fault c a n ≡ result_map_both (λ u. u) passed_up (first_fault d b n)
  unfolding first_fault
  faults_up a b zero each = refl
  faults_up a b (suc n) each =
      let head : c a ≡ cell_up (d b) = sym (ap c (add-zero a)) ∙ each 0 (omega arith) ∙ ap (λ i. cell_up (d i)) (add-zero b) in
      let tail : first_fault c (suc a) n ≡ result_map_both (λ u. u) passed_up (first_fault d (suc b) n) =
      faults_up (suc a) (suc b) n (λ i low. ap c (omega arith) ∙ each (suc i) (omega arith) ∙ ap (λ k. cell_up (d k)) (omega arith)) in
      rw (head, tail) (split_up (d b) (first_fault d (suc b) n))

  value_up : (x : Cell) → value (cell_up x) ≡ value x
  value_up (byte b) = refl
  value_up (fault f) = refl

  pub bytes_up : (a b n : ℕ) → ((i : ℕ) → i < n → c (a + i) ≡ cell_up (d (b + i))) → bytes c a n ≡ bytes d b n
  unfolding bytes
  bytes_up a b zero each = refl
  bytes_up a b (suc n) each =
      let head : value (c a) ≡ value (d b) = ap value (sym (ap c (add-zero a)) ∙ each 0 (omega arith) ∙ ap (λ i. cell_up (d i)) (add-zero b)) ∙ value_up (d b) in
      let tail : bytes c (suc a) n ≡ bytes d (suc b) n =
      bytes_up (suc a) (suc b) n (λ i low. ap c (omega arith) ∙ each (suc i) (omega arith) ∙ ap (λ k. cell_up (d k)) (omega arith)) in
      cc

-- a part of a grain, by the run below where it stands
module _ (l : Layout) (laws : Lawful l) (m : Meaning) (s n : ℕ) (part : Part l s n) where
  viewed_fault : (f : Fault) → walked l m s ≡ Err f → first_fault (viewed l m) s n ≡ Err f
  unfolding viewed
  viewed_fault f e = first_fault_at_once (viewed l m) s n f part.some (ap (cell_behind m) e)

  module _ (good : GoodTable (table_of l) m) (p : ℕ) (e : walked l m s ≡ Ok p) where
    each : (i : ℕ) → i < n → viewed l m (s + i) ≡ cell_up (m.cell (p + i))
    unfolding viewed
    each i low = ap (cell_behind m) (walked_follows l laws m s n p part e i low)

    below_answer : read_answer m p n ≡ first_fault m.cell p n
    below_answer =
        let w = walked_inside l laws m s n p part good e in
        answer_inside m p n (check_run_ok m.size p n part.some w.0 w.1)

    pub viewed_run : first_fault (viewed l m) s n ≡ result_map_both (λ u. u) passed_up (read_answer m p n)
    viewed_run = faults_up (viewed l m) m.cell s p n each ∙ ap (result_map_both (λ u. u) passed_up) (sym below_answer)

    pub viewed_bytes : bytes (viewed l m) s n ≡ bytes m.cell p n
    viewed_bytes = bytes_up (viewed l m) m.cell s p n each

-- what a part of a run answers and brings, by the walk to its first byte and the read below
module _ (l : Layout) (m : Meaning) (h : Tlb) (ready : Ready l m h) (s n : ℕ) (part : Part l s n) where
  pub part_fails : (f : Fault) (w : Result Spot Fault) → w ≡ Err f → result_map_both (λ spot. spot.address.0) (λ f. f) w ≡ walked l m s → Err f ≡ first_fault (viewed l m) s n
  part_fails f w e is = sym (viewed_fault l ready.lawful m s n part f (sym is ∙ ap (result_map_both (λ spot. spot.address.0) (λ f. f)) e))

  pub part_is : (p : ℕ) (now : Meaning) (r : Result (Unit {0}) Fault) → walked l m s ≡ Ok p → now ≡ m → r ≡ from_below (read_answer now p n) → r ≡ first_fault (viewed l m) s n
  part_is p now r e same is = is ∙ ap (λ x. from_below (read_answer x p n)) same ∙ sym (viewed_run l ready.lawful m s n part ready.table p e)

  pub part_brings : (p : ℕ) (now : Meaning) (r : Result (Unit {0}) Fault) (b c : List ℕ) → walked l m s ≡ Ok p → now ≡ m → length b ≡ n → r ≡ from_below (read_answer now p (length b)) → r ≡ Ok tt → c ≡ delivered now p b → c ≡ bytes (viewed l m) s n
  part_brings p now r b c e same long is ok brought =
      brought ∙ ap (λ x. delivered x p b) same
      ∙ ap (λ t. cond t (bytes m.cell p (length b)) b) (below_ok (read_answer m p (length b)) r (is ∙ ap (λ x. from_below (read_answer x p (length b))) same) ok)
      ∙ ap (bytes m.cell p) long ∙ sym (viewed_bytes l ready.lawful m s n part ready.table p e) where
        below_ok : (a r : Result (Unit {0}) Fault) → r ≡ from_below a → r ≡ Ok tt → is_ok a ≡ true
        below_ok (Ok u) r is ok = refl
        below_ok (Err f) r is ok = absurd cc
