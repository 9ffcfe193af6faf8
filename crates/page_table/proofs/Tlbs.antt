-- What a TLB holds: nothing at first, and what it is made to hold. Assumes nothing.
use Rattle.std.proofs.Common.{◌≡◌, ℕ, zero, suc, ◌+◌, ◌%◌, ◌^◌, ◌<◌, min, Bool, true, false, eqb, ltb, ◌⊎◌, length, get_or, set, Some, None, Ok, Option, sym, refl, ap, ◌∙◌, subst, inl, inr, ⊎_elim, arith}
use Rattle.std.proofs.lemmas.List.{get_or-replicate, get_or-set_same, get_or-set_other, get_or_past, set_past}
use Rattle.std.proofs.lemmas.Bool.{cases_Bool, cases_eq, cases_lt, cond-true, cond-false, eqb-true, ltb-true, ltb-false}
use Rattle.memory.specs.Meaning.{Meaning}
use Rattle.page_table.specs.declared.entry.Entry.{Entry}
use Rattle.page_table.specs.declared.table.Table.{Table}
use Rattle.page_table.specs.declared.tlb.Translation.{Translation}
use Rattle.page_table.specs.declared.tlb.Tlb.{Tlb}
use Rattle.page_table.specs.Entry.{is_live}
use Rattle.page_table.specs.Table.{entry_address, entry_read}
use Rattle.page_table.specs.Tlb.{entry_in, held_entry, empty_tlb, kept, counted, counted_hits, Steady}
use Rattle.page_table.specs.Ready.{Holds}

pub holds_nothing : (k : ℕ) → held_entry empty_tlb k ≡ None
holds_nothing k = ap (entry_in k) (get_or-replicate 32 (k % 32) None None (omega arith))

pub none_some : {A : Type 0} {B : Type 0} (x : A) → ◌≡◌ {A = Option A} None (Some x) → B
none_some x e = absurd cc

counted_places : (h : Tlb) (b : Bool) → (counted h b).places ≡ h.places
counted_places h b = ⊎_elim (λ e. rw e refl) (λ e. rw e refl) (cases_Bool (ltb h.lookups (2 ^ 48)))

pub held_counted : (h : Tlb) (b : Bool) (j : ℕ) → held_entry (counted h b) j ≡ held_entry h j
held_counted h b j = ap (λ xs. entry_in j (get_or xs (j % 32) None)) (counted_places h b)

-- a place that holds a translation of the page k
in_place : (k j : ℕ) (e x : Entry) → entry_in j (Some (record { page = k; entry = e })) ≡ Some x → (k ≡ j) × (e ≡ x)
in_place k j e x is =
    ⊎_elim
    (λ same. let eq : Some e ≡ Some x = sym (cond-true (eqb k j) (Some e) None same) ∙ is in (eqb-true k j same, cc))
    (λ other. none_some x (sym (cond-false (eqb k j) (Some e) None other) ∙ is))
    (cases_Bool (eqb k j))

module _ (h : Tlb) (k : ℕ) (e : Entry) where
  new : Option Translation
  new = Some (record { page = k; entry = e })

  -- what is held for another page was held before
  pub held_kept : (j : ℕ) (x : Entry) → held_entry (kept h k e) j ≡ Some x → ((k ≡ j) × (e ≡ x)) ⊎ ((j ≡ k → ⊥) × (held_entry h j ≡ Some x))
  unfolding new
  held_kept j x is =
      ⊎_elim
      (λ low. ⊎_elim
      (λ same.
      let here : j % 32 < length h.places = omega arith in
      let at : get_or (set h.places (k % 32) new) (j % 32) None ≡ new =
      ap (λ i. get_or (set h.places i new) (j % 32) None) (sym same) ∙ get_or-set_same h.places (j % 32) new None here in
      inl (in_place k j e x (sym (ap (entry_in j) at) ∙ is)))
      (λ other. inr (λ eq. other (ap (λ i. i % 32) eq), sym (ap (entry_in j) (get_or-set_other h.places (k % 32) (j % 32) new None other)) ∙ is))
      (cases_eq (j % 32) (k % 32)))
      (λ past.
      let was : held_entry h j ≡ Some x = sym (ap (λ xs. entry_in j (get_or xs (j % 32) None)) (set_past h.places (k % 32) new past)) ∙ is in
      inr (λ eq. none_some x (sym (ap (entry_in j) (get_or_past h.places (j % 32) None (omega (arith, past, ap (λ i. i % 32) eq)))) ∙ was), was))
      (cases_lt (k % 32) (length h.places))

module _ (t : Table) (m : Meaning) (h : Tlb) (holds : Holds t m h) where
  pub holds_counted : (b : Bool) → Holds t m (counted h b)
  holds_counted b = record {
    entry = λ k e is. holds.entry k e (sym (held_counted h b k) ∙ is);
    live = λ k e is. holds.live k e (sym (held_counted h b k) ∙ is);
    low = λ k e is. holds.low k e (sym (held_counted h b k) ∙ is);
  }

  pub holds_kept : (k : ℕ) (e : Entry) → k < t.entries → entry_read m (entry_address t k) ≡ Ok e → is_live e ≡ true → Holds t m (kept h k e)
  holds_kept k e low is live = record {
    entry = λ j x held. ⊎_elim
        (λ new. ap (λ i. entry_read m (entry_address t i)) (sym new.0) ∙ is ∙ ap Ok new.1)
        (λ old. holds.entry j x old.1)
        (held_kept h k e j x held);
    live = λ j x held. ⊎_elim (λ new. ap is_live (sym new.1) ∙ live) (λ old. holds.live j x old.1) (held_kept h k e j x held);
    low = λ j x held. ⊎_elim (λ new. subst (λ i. i < t.entries) new.0 low) (λ old. holds.low j x old.1) (held_kept h k e j x held);
  }

-- hits, counted one by one and at once
pub hits_at_once : (h : Tlb) (n : ℕ) → Steady h → counted_hits h n ≡ record { places = h.places; lookups = min (h.lookups + n) (2 ^ 48); fills = h.fills }
unfolding counted_hits
hits_at_once h zero steady = ap (λ k. record { places = h.places; lookups = k; fills = h.fills }) (omega (arith, steady.lookups))
hits_at_once h (suc n) steady =
    let k : ℕ = min (h.lookups + n) (2 ^ 48) in
    let more : Tlb = record { places = h.places; lookups = k + 1; fills = h.fills } in
    let same : Tlb = record { places = h.places; lookups = k; fills = h.fills } in
    ap (λ t. counted t false) (hits_at_once h n steady) ∙ ⊎_elim
    (λ low. cond-true (ltb k (2 ^ 48)) more same low ∙ ap (λ i. record { places = h.places; lookups = i; fills = h.fills }) (omega (arith, ltb-true k (2 ^ 48) low)))
    (λ high. cond-false (ltb k (2 ^ 48)) more same high ∙ ap (λ i. record { places = h.places; lookups = i; fills = h.fills }) (omega (arith, ltb-false k (2 ^ 48) high)))
    (cases_Bool (ltb k (2 ^ 48)))

pub hits_are : (h : Tlb) (n k : ℕ) → Steady h → k ≡ min (h.lookups + n) (2 ^ 48) → record { places = h.places; lookups = k; fills = h.fills } ≡ counted_hits h n
hits_are h n k steady is = ap (λ i. record { places = h.places; lookups = i; fills = h.fills }) is ∙ sym (hits_at_once h n steady)

pub steady_hits : (h : Tlb) (n : ℕ) → Steady h → Steady (counted_hits h n)
steady_hits h n steady = subst Steady (sym (hits_at_once h n steady)) (record { fills = omega (arith, steady.fills, steady.lookups); lookups = omega arith })

pub held_hits : (h : Tlb) (n k : ℕ) → held_entry (counted_hits h n) k ≡ held_entry h k
unfolding counted_hits
held_hits h zero k = refl
held_hits h (suc n) k = held_counted (counted_hits h n) false k ∙ held_hits h n k

pub one_more_hit : (h : Tlb) (n : ℕ) → counted_hits h (n + 1) ≡ counted (counted_hits h n) false
unfolding counted_hits
one_more_hit h n = let next : n + 1 ≡ suc n = omega arith in ap (counted_hits h) next

pub no_hit : (h : Tlb) → counted_hits h 0 ≡ h
unfolding counted_hits
no_hit h = refl
