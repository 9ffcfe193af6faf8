-- The lookups that a call counts. Assumes nothing.
use Rattle.std.proofs.Common.{◌≡◌, ℕ, zero, suc, ◌+◌, ◌%◌, ◌/◌, ◌^◌, ◌≤◌, min, Bool, true, false, cond, ◌||◌, eqb, ltb, List, [], ◌∷◌, length, is_ok, is_some, Some, None, Ok, Err, Option, Result, refl, ap, ◌∙◌, ⊎_elim, arith}
use Rattle.std.proofs.lemmas.Bool.{cases_Bool, ltb-true, ltb-false, cond-true, cond-false}
use Rattle.memory.specs.declared.fault.Fault.{Fault}
use Rattle.memory.specs.Meaning.{Meaning}
use Rattle.memory.specs.Run.{check_run}
use Rattle.memory.specs.Reach.{Call, reading, writing}
use Rattle.memory.specs.Calls.{read_answer}
use Rattle.mapping.specs.Rules.{Layout}
use Rattle.page_table.specs.declared.entry.Entry.{Entry}
use Rattle.page_table.specs.declared.table.Table.{Table}
use Rattle.page_table.specs.declared.tlb.Tlb.{Tlb}
use Rattle.page_table.specs.Entry.{is_live}
use Rattle.page_table.specs.Table.{table_of, entry_address, entry_read}
use Rattle.page_table.specs.Tlb.{held_entry, kept, counted, Steady}
use Rattle.page_table.specs.Walk.{viewed, windowed}
use Rattle.memory.specs.declared.access.Access.{Access}
use Rattle.walk.specs.Lookup.{taken_in, looked_by, looked, looked_from, looked_at}
use Rattle.walk.specs.Marks.{refreshed_by, refreshed}
use Rattle.transfer.specs.Parts.{pages_of}
use Rattle.transfer.specs.Lookups.{is_byte, met, lookups_from, lookups_of, part_met, parts_from, lookups_run, lookups_in}
use Rattle.transfer.specs.Scatter.{refreshed_pages}
use Rattle.transfer.specs.Call.{tlb_after, tlb_called}

-- one more, up to the most
one_more : (h : Tlb) (b : Bool) → h.lookups ≤ 2 ^ 48 → (counted h b).lookups ≡ min (h.lookups + 1) (2 ^ 48)
one_more h b most = ⊎_elim
    (λ less. let low = ltb-true h.lookups (2 ^ 48) less in ap (λ t. t.lookups) (cond-true (ltb h.lookups (2 ^ 48)) (record { places = h.places; lookups = h.lookups + 1; fills = cond b (h.fills + 1) h.fills }) h less) ∙ omega arith)
    (λ full. let high = ltb-false h.lookups (2 ^ 48) full in ap (λ t. t.lookups) (cond-false (ltb h.lookups (2 ^ 48)) (record { places = h.places; lookups = h.lookups + 1; fills = cond b (h.fills + 1) h.fills }) h full) ∙ omega arith)
    (cases_Bool (ltb h.lookups (2 ^ 48)))

taken_one : (h : Tlb) (k : ℕ) (r : Result Entry Fault) → h.lookups ≤ 2 ^ 48 → (taken_in h k r).lookups ≡ min (h.lookups + 1) (2 ^ 48)
taken_one h k (Err f) most = one_more h false most
taken_one h k (Ok e) most = by (is_live e) where
  by : (b : Bool) → (cond b (kept (counted h true) k e) (counted h false)).lookups ≡ min (h.lookups + 1) (2 ^ 48)
  by true = one_more h true most
  by false = one_more h false most

looked_one : (t : Table) (m : Meaning) (h : Tlb) (k : ℕ) → h.lookups ≤ 2 ^ 48 → (looked t m h k).lookups ≡ min (h.lookups + 1) (2 ^ 48)
unfolding looked
looked_one t m h k most = by (held_entry h k) where
  by : (o : Option Entry) → (looked_by h k (entry_read m (entry_address t k)) o).lookups ≡ min (h.lookups + 1) (2 ^ 48)
  by None = taken_one h k (entry_read m (entry_address t k)) most
  by (Some e) = one_more h false most

at_place : (l : Layout) (m : Meaning) (h : Tlb) (s : ℕ) → h.lookups ≤ 2 ^ 48 → (looked_at l m h s).lookups ≡ min (h.lookups + cond (is_some (l.place s)) 1 0) (2 ^ 48)
unfolding looked_at
at_place l m h s most = by (l.place s) where
  by : (o : Option ℕ) → (looked_from (table_of l) m h o).lookups ≡ min (h.lookups + cond (is_some o) 1 0) (2 ^ 48)
  by None = omega arith
  by (Some v) = looked_one (table_of l) m h (v / 4096) most

met_one : (l : Layout) (m : Meaning) (first : Bool) (s : ℕ) (h : Tlb) → h.lookups ≤ 2 ^ 48 → (met l m first s h).lookups ≡ min (h.lookups + part_met l first s) (2 ^ 48)
met_one l m first s h most = by (first || eqb (s % l.grain) 0) where
  by : (b : Bool) → (cond b (looked_at l m h s) h).lookups ≡ min (h.lookups + cond b (cond (is_some (l.place s)) 1 0) 0) (2 ^ 48)
  by true = at_place l m h s most
  by false = omega arith

counted_run : (l : Layout) (m : Meaning) (first : Bool) (s n : ℕ) (h : Tlb) → h.lookups ≤ 2 ^ 48 → (lookups_from l m first s n h).lookups ≡ min (h.lookups + parts_from l m first s n) (2 ^ 48)
unfolding lookups_from parts_from
counted_run l m first s zero h most = omega arith
counted_run l m first s (suc n) h most =
    by (is_byte (viewed l m s)) (counted_run l m false (suc s) n (met l m first s h) (omega (arith, met_one l m first s h most))) where
      by : (b : Bool) → (lookups_from l m false (suc s) n (met l m first s h)).lookups ≡ min ((met l m first s h).lookups + parts_from l m false (suc s) n) (2 ^ 48) → (cond b (lookups_from l m false (suc s) n (met l m first s h)) (met l m first s h)).lookups ≡ min (h.lookups + cond b (part_met l first s + parts_from l m false (suc s) n) (part_met l first s)) (2 ^ 48)
      by true rest = rest ∙ omega (arith, met_one l m first s h most)
      by false rest = met_one l m first s h most

refreshed_count : (access : Access) (ks : List ℕ) (h : Tlb) → (refreshed_pages access ks h).lookups ≡ h.lookups
unfolding refreshed_pages refreshed
refreshed_count access [] h = refl
refreshed_count access (k ∷ ks) h = refreshed_count access ks (refreshed access k h) ∙ by (held_entry h k) where
  by : (o : Option Entry) → (refreshed_by access k h o).lookups ≡ h.lookups
  by None = refl
  by (Some e) = refl

run_count : (l : Layout) (m : Meaning) (access : Access) (a n : ℕ) (h : Tlb) → h.lookups ≤ 2 ^ 48 → (tlb_after l m access a n h).lookups ≡ min (h.lookups + lookups_run l m a n) (2 ^ 48)
unfolding tlb_after
run_count l m access a n h most = by (is_ok (check_run l.image_size a n)) (is_ok (read_answer (windowed l m) a n)) where
  by : (b d : Bool) → (cond b (cond d (refreshed_pages access (pages_of l a n) (lookups_of l m a n h)) (lookups_of l m a n h)) h).lookups ≡ min (h.lookups + cond b (parts_from l m true a n) 0) (2 ^ 48)
  by true true = refreshed_count access (pages_of l a n) (lookups_of l m a n h) ∙ counted_run l m true a n h most
  by true false = counted_run l m true a n h most
  by false d = omega arith

-- every call
pub count_of : (l : Layout) (m : Meaning) (h : Tlb) → Steady h → (c : Call) → (tlb_called l m c h).lookups ≡ min (h.lookups + lookups_in l m c) (2 ^ 48)
count_of l m h steady (reading a b) = run_count l m _ a (length b) h steady.lookups
count_of l m h steady (writing a bs) = run_count l m _ a (length bs) h steady.lookups
