-- A part that stands in a page whose entry is held. Assumes nothing.
use Rattle.std.proofs.Common.{◌≡◌, ℕ, ◌+◌, ◌-◌, ◌&&◌, not, Bool, true, false, cond, List, length, set, Some, Ok, Err, Option, Result, sym, refl, ap, ◌∙◌, subst, arith}
use borrow.Rule.Slice.PartMut.{put_mid}
use Rattle.std.proofs.lemmas.List.{length-take, length-drop}
use Rattle.memory.specs.declared.fault.Fault.{Fault}
use Rattle.memory.specs.Fault.{from_below}
use Rattle.memory.specs.Calls.{first_fault, bytes, read_answer, delivered}
use Rattle.memory.specs.declared.fault.Cause.{Cause}
use Rattle.memory.specs.declared.fault.Cause.TheVariants.{NoPage, PageOut}
use Rattle.memory.specs.Meaning.{Meaning}
use Rattle.mapping.specs.Rules.{Layout}
use Rattle.page_table.specs.declared.entry.Entry.{Entry}
use Rattle.page_table.specs.declared.tlb.Tlb.{Tlb}
use Rattle.page_table.specs.Table.{table_of, entry_address, entry_read}
use Rattle.page_table.specs.Tlb.{held_entry, counted, counted_hits, Steady}
use Rattle.page_table.specs.Walk.{through, walked_from, walked, viewed}
use Rattle.page_table.specs.Ready.{Ready, Holds}
use Rattle.page_table.proofs.Tlbs.{held_counted, holds_counted, no_hit}
use Rattle.walk.specs.declared.spot.Spot.{Spot}
use Rattle.walk.specs.Lookup.{looked, looked_from, looked_at, page_of, page_at}
use Rattle.walk.proofs.Lookups.{looked_held}
use Rattle.transfer.specs.Follows.{Follows}
use Rattle.transfer.specs.Parts.{Part}
use Rattle.transfer.specs.Lookups.{lookups_of}
use Rattle.transfer.proofs.Stepping.{step_is}
use Rattle.transfer.proofs.Grains.{part_is, part_brings}
use Rattle.transfer.proofs.Gathering.{Gathered, NextPart, part_of, gathered_refused, lookups_refused, gathered_more}

live_frame_is : (valid out : Bool) (frame : ℕ) → (valid && not out) ≡ true → ◌≡◌ {A = Result ℕ Cause} (cond valid (cond out (Err PageOut) (Ok frame)) (Err NoPage)) (Ok frame)
live_frame_is true false frame live = refl
live_frame_is true true frame live = absurd cc
live_frame_is false out frame live = absurd cc

module _ {l : Layout} {m : Meaning} {h : Tlb} {s k : ℕ} {held : Option Entry} {spot : Spot} (ready : Ready l m h) (is : held ≡ held_entry h k) (x : Follows l s k held spot) where
  here : held_entry h k ≡ Some x.entry
  here = sym is ∙ x.holds

  pub follows_walk : walked l m s ≡ Ok spot.address.0
  follows_walk =
      let t = table_of l in
      let read = ready.holds.entry k x.entry here in
      let live = live_frame_is x.entry.valid x.entry.out x.entry.frame (ready.holds.live k x.entry here) in
      ap (walked_from t m s) x.at
      ∙ ap (λ i. through s x.place (entry_read m (entry_address t i))) x.within
      ∙ ap (through s x.place) read
      ∙ rw live (ap Ok (sym x.address))

  pub follows_page : spot.page ≡ page_at l s
  follows_page = x.page ∙ sym x.within ∙ sym (ap page_of x.at)

  pub follows_lookup : counted h false ≡ looked_at l m h s
  unfolding looked_at
  follows_lookup =
      let t = table_of l in
      looked_held t m h k x.entry (sym here) ∙ ap (looked t m h) (sym x.within) ∙ ap (looked_from t m h) (sym x.at)

-- it is gathered as any part is
module _ {l : Layout} {m : Meaning} {before : Tlb} {a n done : ℕ} {h : Tlb} {line : List ℕ} {count : ℕ} {spots : List Spot} {step : ℕ} (x : NextPart l m before a n done h line count spots step)
    {k : ℕ} {held : Option Entry} {spot : Spot} (ready : Ready l m h) (is : held ≡ held_entry h k) (f : Follows l (a + done) k held spot)
    (now : Meaning) (same : now ≡ m) (r : Result (Unit {0}) Fault) (answer : r ≡ from_below (read_answer now spot.address.0 (length (part_of done step line)))) where
  abbrev size : ℕ
  size = length (part_of done step line)

  size_is : size ≡ step
  size_is = let st = step_is l.grain a n done step (omega (arith, x.lawful.grain_least)) x.more x.is in
      simp (length-take, length-drop) (omega (arith, x.so_far.long, st.room))

  part : Part l (a + done) size
  part =
      let st = step_is l.grain a n done step (omega (arith, x.lawful.grain_least)) x.more x.is in
      record { some = omega (arith, st.some, size_is); grain = omega (arith, st.grain, size_is); inside = omega (arith, st.room, x.image, size_is) }

  met : r ≡ first_fault (viewed l now) (a + done) size
  met =
      part_is l m h ready (a + done) size part spot.address.0 now r (follows_walk ready is f) same answer
      ∙ ap (λ y. first_fault (viewed l y) (a + done) size) (sym same)

  look : (new : Tlb) → new ≡ counted h false → new ≡ looked_at l now h (a + done)
  look new counts = counts ∙ follows_lookup ready is f ∙ ap (λ y. looked_at l y h (a + done)) (sym same)

  pub following_refused : (e : Fault) → r ≡ Err e → Err e ≡ first_fault (viewed l m) a n
  following_refused e bad = gathered_refused x now same (Err e) (sym bad ∙ met) (counted h false) (look (counted h false) refl) e refl

  pub following_lookups : (e : Fault) → r ≡ Err e → (new : Tlb) → new ≡ counted h false → new ≡ lookups_of l m a n before
  following_lookups e bad new counts = lookups_refused x now same (Err e) (sym bad ∙ met) new (look new counts) e refl

  pub following_more : r ≡ Ok tt → (new : Tlb) → new ≡ counted h false → (brought : List ℕ) → brought ≡ delivered now spot.address.0 (part_of done step line)
      → Gathered l m before a n (done + step) new (put_mid done (done + step - done) line brought) (count + 1) (set spots count spot)
  following_more ok new counts brought is_brought = gathered_more x now same (Ok spot) (sym ok ∙ met) new (look new counts) spot refl brought
      (part_brings l m h ready (a + done) size part spot.address.0 now r (part_of done step line) brought (follows_walk ready is f) same refl answer ok is_brought
      ∙ ap (λ y. bytes (viewed l y) (a + done) size) (sym same))
      (follows_page ready is f)
      (ap (λ y. walked l y (a + done)) same ∙ follows_walk ready is f)

-- what is held and ready stays so by a count
pub ready_counted : {l : Layout} {m : Meaning} {h : Tlb} → Ready l m h → (new : Tlb) → new ≡ counted h false → Steady new → Ready l m new
ready_counted {l} {m} {h} ready new counts steady = record {
  lawful = ready.lawful;
  formed = ready.formed;
  table = ready.table;
  holds = subst (Holds (table_of l) m) (sym counts) (holds_counted (table_of l) m h ready.holds false);
  steady = steady;
}

pub held_still : (h : Tlb) (k : ℕ) (held : Option Entry) → held ≡ held_entry h k → (new : Tlb) → new ≡ counted h false → held ≡ held_entry new k
held_still h k held is new counts = is ∙ sym (held_counted h false k) ∙ ap (λ t. held_entry t k) (sym counts)

pub gathered_no_hit : {l : Layout} {m : Meaning} {before : Tlb} {a n done : ℕ} {h : Tlb} {line : List ℕ} {count : ℕ} {spots : List Spot}
    → Gathered l m before a n done h line count spots → Gathered l m before a n done (counted_hits h 0) line count spots
gathered_no_hit {l} {m} {before} {a} {n} {done} {h} {line} {count} {spots} x = subst (λ t. Gathered l m before a n done t line count spots) (sym (no_hit h)) x
