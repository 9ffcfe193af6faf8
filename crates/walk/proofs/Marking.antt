-- Marks: the first byte of an entry, and what setting it leaves. Assumes nothing.
use Rattle.std.proofs.Common.{◌≡◌, ℕ, zero, suc, ◌+◌, ◌-◌, ◌%◌, ◌^◌, ◌<◌, ◌≤◌, true, false, cond, eqb, List, [], ◌∷◌, get_or, set, is_ok, is_some, Some, None, Ok, Err, Option, Result, sym, refl, ap, ◌∙◌, subst, inl, inr, ⊎_elim, arith}
use native.Mathlib.Nat.{sub_self}
use Rattle.std.specs.Int.{bit_at}
use Rattle.std.specs.Result.{result_and, result_map_both}
use Rattle.std.proofs.lemmas.Bool.{cases_Bool, cases_eq, cases_lt, cond-true, cond-false, and_parts, eq-eqb, eqb-true, false≢true}
use Rattle.memory.specs.declared.fault.Fault.{Fault}
use Rattle.memory.specs.Fault.{passed_up}
use Rattle.memory.specs.Meaning.{Cell, byte, Meaning}
use Rattle.memory.specs.Calls.{cell_answer, first_fault, read_answer, delivered, value, bytes, stored, written}
use Rattle.memory.proofs.Overlays.{Inside, Outside}
use Rattle.memory.proofs.Runs.{check_run_ok}
use Rattle.memory.proofs.Calls.{answer_inside, first_fault_none, written_accepted, writes_as_reads, cell_answer_byte, is_stored}
use Rattle.memory.proofs.Writes.{first_fault_each, stored_inside, stored_outside}
use Rattle.units.specs.Word.{word_at}
use Rattle.page_table.specs.declared.entry.Entry.{Entry}
use Rattle.page_table.specs.declared.table.Table.{Table}
use Rattle.page_table.specs.declared.tlb.Tlb.{Tlb}
use Rattle.page_table.specs.declared.tlb.Translation.{Translation}
use Rattle.page_table.specs.Entry.{flag, entry_of, is_live, set_flag}
use Rattle.page_table.specs.Table.{entry_address, entry_at, entry_read, frame_in, frame_of}
use Rattle.page_table.specs.Tlb.{held_entry, entry_in, kept}
use Rattle.std.specs.Prelude.{slice_index_or}
use Rattle.std.proofs.lemmas.List.{set-get_or}
use Rattle.page_table.specs.Ready.{Holds}
use Rattle.page_table.proofs.Tlbs.{held_kept, none_some}
use Rattle.memory.specs.declared.access.Access.{Access}
use Rattle.memory.specs.declared.access.Access.TheVariants.{Read, Write}
use Rattle.walk.specs.Marks.{top_after, marked_entry, is_marked, held_marked, marked_in, marked_at, marked, refreshed_by, refreshed}

-- a read of one accepted byte brings it, and a write puts one in its place
pub top_written : (access : Access) (m : Meaning) (a : ℕ) (b : List ℕ) (x : ℕ) → read_answer m a 1 ≡ Ok tt → b ≡ delivered m a (x ∷ []) → written m a (top_after access (get_or b 0 0) ∷ []) ≡ marked_at access a m
unfolding bytes
top_written access m a b x ok is =
    let brought : b ≡ value (m.cell a) ∷ [] = is ∙ ap (λ r. cond (is_ok r) (bytes m.cell a 1) (x ∷ [])) ok in
    ap (λ bs. written m a (top_after access (get_or bs 0 0) ∷ [])) brought
    ∙ written_accepted m a (top_after access (value (m.cell a)) ∷ []) (writes_as_reads m a 1 ∙ ok)

-- the four bytes of an entry
unfold_at : (m : Meaning) (a : ℕ) → entry_at m a ≡ entry_of (value (m.cell a) ∷ value (m.cell (suc a)) ∷ value (m.cell (suc (suc a))) ∷ value (m.cell (suc (suc (suc a)))) ∷ [])
unfolding bytes
unfold_at m a = refl

read_ok : (m : Meaning) (a : ℕ) (e : Entry) (r : Result (Unit {0}) Fault) → result_map_both (λ _. entry_at m a) passed_up r ≡ Ok e → (r ≡ Ok tt) × (entry_at m a ≡ e)
read_ok m a e (Ok u) is = (refl, cc)
read_ok m a e (Err f) is = absurd cc

-- an entry that is read, taken apart
pub entry_parts : (m : Meaning) (a : ℕ) (e : Entry) → entry_read m a ≡ Ok e → (first_fault m.cell a 4 ≡ Ok tt) × (entry_at m a ≡ e)
unfolding entry_read
entry_parts m a e is = read_ok m a e (first_fault m.cell a 4) is

live_in : (r : Result Entry Fault) → is_some (frame_in r) ≡ true → (e : Entry) × (r ≡ Ok e) × (is_live e ≡ true)
live_in (Err f) some = absurd (false≢true some)
live_in (Ok e) some =
    ⊎_elim
    (λ live. (e, refl, live))
    (λ dead. absurd (false≢true (sym (ap is_some (cond-false (is_live e) (Some e.frame) None dead)) ∙ some)))
    (cases_Bool (is_live e))

-- a live entry
pub live_entry : (t : Table) (m : Meaning) (k : ℕ) → is_some (frame_of t m k) ≡ true → (e : Entry) × (entry_read m (entry_address t k) ≡ Ok e) × (is_live e ≡ true)
live_entry t m k some = live_in (entry_read m (entry_address t k)) some

pub top_accepted : (t : Table) (m : Meaning) (k : ℕ) → entry_address t k + 4 ≤ m.size → is_some (frame_of t m k) ≡ true → read_answer m (entry_address t k) 1 ≡ Ok tt
top_accepted t m k inside some =
    let live = live_entry t m k some in
    let parts = entry_parts m (entry_address t k) live.0 live.1 in
    answer_inside m (entry_address t k) 1 (check_run_ok m.size (entry_address t k) 1 (omega arith) (omega arith) (omega arith))
    ∙ first_fault_none m.cell (entry_address t k) 1 (λ i low high. first_fault_each m.cell (entry_address t k) 4 parts.0 i (low, omega arith))

pub marked_is : (t : Table) (access : Access) (k : ℕ) (m : Meaning) → marked_at access (entry_address t k) m ≡ marked t access k m
unfolding marked
marked_is t access k m = refl

set_same : (i b : ℕ) → flag i b ≡ true → set_flag i b ≡ b
set_same i b yes1 = cond-true (flag i b) b (b + 2 ^ i) yes1

-- the first byte of an entry that is marked already
top_same : (access : Access) (b0 b1 b2 b3 : ℕ) → is_marked access (entry_of (b0 ∷ b1 ∷ b2 ∷ b3 ∷ [])) ≡ true → top_after access b0 ≡ b0
top_same Read b0 b1 b2 b3 set1 = set_same 6 b0 set1
top_same Write b0 b1 b2 b3 set1 =
    let both = and_parts (flag 6 b0) (flag 5 b0) set1 in
    ap (set_flag 5) (set_same 6 b0 both.0) ∙ set_same 5 b0 both.1

-- the marks set, what is stored is what stands there
pub marked_already : (t : Table) (access : Access) (k : ℕ) (m : Meaning) (h : Tlb) → Holds t m h → held_marked access k h ≡ true → m ≡ marked t access k m
unfolding marked
marked_already t access k m h holds set1 = by (held_entry h k) refl set1 where
  a : ℕ
  a = entry_address t k

  by : (o : Option Entry) → held_entry h k ≡ o → marked_in access o ≡ true → m ≡ marked_at access (entry_address t k) m
  by None held yes1 = absurd (false≢true yes1)
  by (Some e) held yes1 =
      let parts = entry_parts m (entry_address t k) e (holds.entry k e held) in
      let top : top_after access (value (m.cell (entry_address t k))) ≡ value (m.cell (entry_address t k)) =
      top_same access _ _ _ _ (ap (is_marked access) (sym (unfold_at m (entry_address t k)) ∙ parts.1) ∙ yes1) in
      let here : m.cell (entry_address t k) ≡ byte (value (m.cell (entry_address t k))) =
      cell_answer_byte (m.cell (entry_address t k)) (first_fault_each m.cell (entry_address t k) 4 parts.0 (entry_address t k) (omega arith, omega arith)) in
      is_stored m m (entry_address t k) (top_after access (value (m.cell (entry_address t k))) ∷ []) refl
      (λ i run.
      let at : i ≡ entry_address t k = omega (arith, run.0, run.1) in
      let none : 0 ≡ i - entry_address t k = omega arith in
      ap m.cell at ∙ here ∙ ap byte (sym top) ∙ ap (λ j. byte (get_or (top_after access (value (m.cell (entry_address t k))) ∷ []) j 0)) none)
      (λ i run. refl)

bit_clear : (i b : ℕ) → flag i b ≡ false → bit_at b i ≡ 0
bit_clear i b no1 = ⊎_elim (λ one. absurd (false≢true (sym no1 ∙ eq-eqb (bit_at b i) 1 one))) (λ other. omega arith) (cases_eq (bit_at b i) 1)

-- a bit set in the first byte of an entry
module _ (b0 b1 b2 b3 : ℕ) where
  bs : List ℕ
  bs = b1 ∷ b2 ∷ b3 ∷ []

  six : entry_of (set_flag 6 b0 ∷ b1 ∷ b2 ∷ b3 ∷ []) ≡ marked_entry Read (entry_of (b0 ∷ b1 ∷ b2 ∷ b3 ∷ []))
  six = ⊎_elim
      (λ set1. ap (λ b. entry_of (b ∷ b1 ∷ b2 ∷ b3 ∷ [])) (set_same 6 b0 set1) ∙ (λ i. record {
        valid = flag 7 b0;
        referenced = set1 i;
        modified = flag 5 b0;
        out = flag 4 b0;
        frame = word_at (b0 ∷ b1 ∷ b2 ∷ b3 ∷ []) 0 % 2 ^ 28;
      }))
      (λ clear.
      let zero1 = bit_clear 6 b0 clear in
      let e7 : flag 7 (b0 + 64) ≡ flag 7 b0 = ap (λ x. eqb x 1) (omega (arith, zero1)) in
      let e6 : flag 6 (b0 + 64) ≡ true = eq-eqb (bit_at (b0 + 64) 6) 1 (omega (arith, zero1)) in
      let e5 : flag 5 (b0 + 64) ≡ flag 5 b0 = ap (λ x. eqb x 1) (omega (arith, zero1)) in
      let e4 : flag 4 (b0 + 64) ≡ flag 4 b0 = ap (λ x. eqb x 1) (omega (arith, zero1)) in
      let f : word_at ((b0 + 64) ∷ b1 ∷ b2 ∷ b3 ∷ []) 0 % 2 ^ 28 ≡ word_at (b0 ∷ b1 ∷ b2 ∷ b3 ∷ []) 0 % 2 ^ 28 = omega arith in
      ap (λ b. entry_of (b ∷ b1 ∷ b2 ∷ b3 ∷ [])) (cond-false (flag 6 b0) b0 (b0 + 64) clear)
      ∙ (λ i. record { valid = e7 i; referenced = e6 i; modified = e5 i; out = e4 i; frame = f i }))
      (cases_Bool (flag 6 b0))

  five : entry_of (set_flag 5 b0 ∷ b1 ∷ b2 ∷ b3 ∷ []) ≡ record { valid = flag 7 b0; referenced = flag 6 b0; modified = true; out = flag 4 b0; frame = word_at (b0 ∷ b1 ∷ b2 ∷ b3 ∷ []) 0 % 2 ^ 28 }
  five = ⊎_elim
      (λ set1. ap (λ b. entry_of (b ∷ b1 ∷ b2 ∷ b3 ∷ [])) (set_same 5 b0 set1) ∙ (λ i. record {
        valid = flag 7 b0;
        referenced = flag 6 b0;
        modified = set1 i;
        out = flag 4 b0;
        frame = word_at (b0 ∷ b1 ∷ b2 ∷ b3 ∷ []) 0 % 2 ^ 28;
      }))
      (λ clear.
      let zero1 = bit_clear 5 b0 clear in
      let e7 : flag 7 (b0 + 32) ≡ flag 7 b0 = ap (λ x. eqb x 1) (omega (arith, zero1)) in
      let e6 : flag 6 (b0 + 32) ≡ flag 6 b0 = ap (λ x. eqb x 1) (omega (arith, zero1)) in
      let e5 : flag 5 (b0 + 32) ≡ true = eq-eqb (bit_at (b0 + 32) 5) 1 (omega (arith, zero1)) in
      let e4 : flag 4 (b0 + 32) ≡ flag 4 b0 = ap (λ x. eqb x 1) (omega (arith, zero1)) in
      let f : word_at ((b0 + 32) ∷ b1 ∷ b2 ∷ b3 ∷ []) 0 % 2 ^ 28 ≡ word_at (b0 ∷ b1 ∷ b2 ∷ b3 ∷ []) 0 % 2 ^ 28 = omega arith in
      ap (λ b. entry_of (b ∷ b1 ∷ b2 ∷ b3 ∷ [])) (cond-false (flag 5 b0) b0 (b0 + 32) clear)
      ∙ (λ i. record { valid = e7 i; referenced = e6 i; modified = e5 i; out = e4 i; frame = f i }))
      (cases_Bool (flag 5 b0))

-- the entry after its first byte is marked
top_entry : (access : Access) (b0 b1 b2 b3 : ℕ) → entry_of (top_after access b0 ∷ b1 ∷ b2 ∷ b3 ∷ []) ≡ marked_entry access (entry_of (b0 ∷ b1 ∷ b2 ∷ b3 ∷ []))
top_entry Read b0 b1 b2 b3 = six b0 b1 b2 b3
top_entry Write b0 b1 b2 b3 =
    five (set_flag 6 b0) b1 b2 b3
    ∙ ap (λ e. record { valid = e.valid; referenced = e.referenced; modified = true; out = e.out; frame = e.frame }) (six b0 b1 b2 b3)

-- what a run says rests on its own cells
same_faults : (c d : ℕ → Cell) (a n : ℕ) → ((i : ℕ) → Inside a n i → cell_answer (c i) ≡ cell_answer (d i)) → first_fault c a n ≡ first_fault d a n
unfolding first_fault
same_faults c d a zero each = refl
same_faults c d a (suc n) each =
    rw (each a (omega arith, omega arith)) (ap (result_and (cell_answer (d a))) (same_faults c d (suc a) n (λ i run. each i (omega (arith, run.0), omega (arith, run.1)))))

same_bytes : (c d : ℕ → Cell) (a n : ℕ) → ((i : ℕ) → Inside a n i → c i ≡ d i) → bytes c a n ≡ bytes d a n
unfolding bytes
same_bytes c d a zero each = refl
same_bytes c d a (suc n) each =
    let head : value (c a) ≡ value (d a) = ap value (each a (omega arith, omega arith)) in
    let tail : bytes c (suc a) n ≡ bytes d (suc a) n = same_bytes c d (suc a) n (λ i run. each i (omega (arith, run.0), omega (arith, run.1))) in
    cc

-- an entry is read from its own four cells
pub same_entry : (m n : Meaning) (a : ℕ) → ((i : ℕ) → Inside a 4 i → m.cell i ≡ n.cell i) → entry_read m a ≡ entry_read n a
unfolding entry_read
same_entry m n a each =
    ap (λ bs. result_map_both (λ _. entry_of bs) passed_up (first_fault m.cell a 4)) (same_bytes m.cell n.cell a 4 each)
    ∙ ap (result_map_both (λ _. entry_at n a) passed_up) (same_faults m.cell n.cell a 4 (λ i run. ap cell_answer (each i run)))

module _ (t : Table) (access : Access) (k : ℕ) (m : Meaning) (e : Entry) (read : entry_read m (entry_address t k) ≡ Ok e) where
  a : ℕ
  a = entry_address t k

  top : ℕ
  top = top_after access (value (m.cell (entry_address t k)))

  -- the entry after its marks are set
  pub marked_entry_is : entry_read (marked t access k m) (entry_address t k) ≡ Ok (marked_entry access e)
  unfolding marked entry_read a top
  marked_entry_is =
      let parts = entry_parts m a e read in
      let n : Meaning = stored m a (top ∷ []) in
      let first : n.cell a ≡ byte top = stored_inside m a (top ∷ []) a (omega arith, omega arith) ∙ ap (λ j. byte (get_or (top ∷ []) j 0)) (sub_self a) in
      let after : (i : ℕ) → a < i → n.cell i ≡ m.cell i = λ i far. stored_outside m a (top ∷ []) i (inr (omega arith)) in
      let good : first_fault n.cell a 4 ≡ Ok tt =
      same_faults n.cell m.cell a 4 (λ i run. ⊎_elim
      (λ here. ap (λ j. cell_answer (n.cell j)) here ∙ ap cell_answer first ∙ sym (first_fault_each m.cell a 4 parts.0 i run))
      (λ other. ap cell_answer (after i (omega (arith, run.0))))
      (cases_eq i a))
      ∙ parts.0 in
      let b1 : ℕ = value (m.cell (suc a)) in
      let b2 : ℕ = value (m.cell (suc (suc a))) in
      let b3 : ℕ = value (m.cell (suc (suc (suc a)))) in
      let now1 : entry_at n a ≡ entry_of (top ∷ b1 ∷ b2 ∷ b3 ∷ []) =
      unfold_at n a
      ∙ ap (λ x. entry_of (value x ∷ value (n.cell (suc a)) ∷ value (n.cell (suc (suc a))) ∷ value (n.cell (suc (suc (suc a)))) ∷ [])) first
      ∙ ap (λ x. entry_of (top ∷ value x ∷ value (n.cell (suc (suc a))) ∷ value (n.cell (suc (suc (suc a)))) ∷ [])) (after (suc a) (omega arith))
      ∙ ap (λ x. entry_of (top ∷ b1 ∷ value x ∷ value (n.cell (suc (suc (suc a)))) ∷ [])) (after (suc (suc a)) (omega arith))
      ∙ ap (λ x. entry_of (top ∷ b1 ∷ b2 ∷ value x ∷ [])) (after (suc (suc (suc a))) (omega arith)) in
      ap (result_map_both (λ _. entry_at n a) passed_up) good
      ∙ ap Ok (now1 ∙ top_entry access (value (m.cell a)) b1 b2 b3 ∙ ap (marked_entry access) (sym (unfold_at m a) ∙ parts.1))

  -- every other entry is as it was
  pub marked_other : (j : ℕ) → (j ≡ k → ⊥) → entry_read (marked t access k m) (entry_address t j) ≡ entry_read m (entry_address t j)
  unfolding marked top
  marked_other j other =
      same_entry (stored m (entry_address t k) (top ∷ [])) m (entry_address t j)
      (λ i run. stored_outside m (entry_address t k) (top ∷ []) i (apart i run)) where
        apart : (i : ℕ) → Inside (entry_address t j) 4 i → Outside (entry_address t k) 1 i
        apart i run = ⊎_elim (λ low. inl (omega (arith, run.1))) (λ high. inr (omega (arith, run.0, other))) (cases_lt j k)

pub live_marked : (access : Access) (e : Entry) → is_live (marked_entry access e) ≡ is_live e
live_marked Read e = refl
live_marked Write e = refl

pub holds_marked : (t : Table) (access : Access) (k : ℕ) (m : Meaning) (h : Tlb) → Holds t m h → is_some (frame_of t m k) ≡ true → Holds t (marked t access k m) (refreshed access k h)
unfolding refreshed
holds_marked t access k m h holds some = by (held_entry h k) refl where
  e : (e : Entry) × (entry_read m (entry_address t k) ≡ Ok e) × (is_live e ≡ true)
  e = live_entry t m k some

  other : (j : ℕ) (x : Entry) → (j ≡ k → ⊥) → held_entry h j ≡ Some x → entry_read (marked t access k m) (entry_address t j) ≡ Ok x
  other j x apart was = marked_other t access k m e.0 e.1 j apart ∙ holds.entry j x was

  by : (o : Option Entry) → held_entry h k ≡ o → Holds t (marked t access k m) (refreshed_by access k h o)
  by None none = record {
    entry = λ j x is. other j x (λ same. absurd (none_some x (sym none ∙ ap (held_entry h) (sym same) ∙ is))) is;
    live = holds.live;
    low = holds.low;
  }
  by (Some d) held =
      let same : ◌≡◌ {A = Result Entry Fault} (Ok d) (Ok e.0) = sym (holds.entry k d held) ∙ e.1 in
      let de : d ≡ e.0 = cc in
      record {
        entry = λ j x is. ⊎_elim
            (λ new. ap (λ i. entry_read (marked t access k m) (entry_address t i)) (sym new.0) ∙ marked_entry_is t access k m e.0 e.1 ∙ ap (λ y. Ok (marked_entry access y)) (sym de) ∙ ap Ok new.1)
            (λ was. other j x was.0 was.1)
            (held_kept h k (marked_entry access d) j x is);
        live = λ j x is. ⊎_elim
            (λ new. ap is_live (sym new.1) ∙ live_marked access d ∙ holds.live k d held)
            (λ was. holds.live j x was.1)
            (held_kept h k (marked_entry access d) j x is);
        low = λ j x is. ⊎_elim
            (λ new. subst (λ i. i < t.entries) new.0 (holds.low k d held))
            (λ was. holds.low j x was.1)
            (held_kept h k (marked_entry access d) j x is);
      }

-- where the marks are set already, what is held stays as it is
pub refreshed_already : (access : Access) (k : ℕ) (h : Tlb) → held_marked access k h ≡ true → h ≡ refreshed access k h
unfolding refreshed
refreshed_already access k h set1 = by (slice_index_or h.places (k % 32) None) refl set1 where
  same_entry : (access : Access) (e : Entry) → is_marked access e ≡ true → marked_entry access e ≡ e
  same_entry Read e yes1 = ap (λ b. record { valid = e.valid; referenced = b; modified = e.modified; out = e.out; frame = e.frame }) (sym yes1)
  same_entry Write e yes1 =
      let both = and_parts e.referenced e.modified yes1 in
      ap (λ b. record { valid = e.valid; referenced = b; modified = true; out = e.out; frame = e.frame }) (sym both.0)
      ∙ ap (λ b. record { valid = e.valid; referenced = e.referenced; modified = b; out = e.out; frame = e.frame }) (sym both.1)

  by : (p : Option Translation) → slice_index_or h.places (k % 32) None ≡ p → marked_in access (entry_in k (slice_index_or h.places (k % 32) None)) ≡ true → h ≡ refreshed_by access k h (held_entry h k)
  by None at yes1 = absurd (false≢true (sym (ap (λ p. marked_in access (entry_in k p)) at) ∙ yes1))
  by (Some t) at yes1 = ⊎_elim
      (λ mine.
      let found : held_entry h k ≡ Some t.entry = ap (entry_in k) at ∙ cond-true (eqb t.page k) (Some t.entry) None mine in
      let same : marked_entry access t.entry ≡ t.entry = same_entry access t.entry (ap (marked_in access) (sym found) ∙ yes1) in
      let put : set h.places (k % 32) (Some t) ≡ h.places = ap (set h.places (k % 32)) (sym at) ∙ set-get_or h.places (k % 32) None in
      let page : t.page ≡ k = eqb-true t.page k mine in
      sym (ap (refreshed_by access k h) found
      ∙ ap (kept h k) same
      ∙ ap (λ i. kept_at i) (sym page)
      ∙ ap (λ xs. record { places = xs; lookups = h.lookups; fills = h.fills }) put))
      (λ other. absurd (false≢true (sym (ap (marked_in access) (ap (entry_in k) at ∙ cond-false (eqb t.page k) (Some t.entry) None other)) ∙ yes1)))
      (cases_Bool (eqb t.page k)) where
        kept_at : ℕ → Tlb
        kept_at i = record { places = set h.places (k % 32) (Some (record { page = i; entry = t.entry })); lookups = h.lookups; fills = h.fills }
