-- Which pages a run marks, and what the marks leave of every entry and of every other cell. Assumes nothing.
use Rattle.std.proofs.Common.{◌≡◌, ℕ, zero, suc, ◌+◌, ◌%◌, ◌<◌, ◌≤◌, Bool, true, false, cond, ◌||◌, eqb, ◌⊎◌, List, [], ◌∷◌, ◌++◌, Some, Ok, Err, Result, sym, refl, ap, ◌∙◌, subst, inl, inr, ⊎_elim, mod-lt, arith}
use Rattle.std.proofs.lemmas.Bool.{cases_eq, cases_lt, eqb-true, eq-eqb, ne_eqb, or_left, or_right, or_cases, or_parts, false≢true}
use Rattle.memory.specs.declared.fault.Fault.{Fault}
use Rattle.memory.specs.Meaning.{Meaning}
use Rattle.memory.specs.Calls.{value}
use Rattle.memory.proofs.Writes.{stored_outside}
use Rattle.mapping.specs.Rules.{Layout}
use Rattle.mapping.specs.Laws.{Lawful}
use Rattle.page_table.specs.declared.entry.Entry.{Entry}
use Rattle.page_table.specs.declared.table.Table.{Table}
use Rattle.page_table.specs.Entry.{SameButMarks}
use Rattle.page_table.specs.Table.{table_of, entry_address, entry_read, frame_of, GoodTable}
use Rattle.page_table.specs.Class.{SameRead, SameTable}
use Rattle.page_table.specs.Walk.{walked}
use Rattle.memory.specs.declared.access.Access.{Access}
use Rattle.memory.specs.declared.access.Access.TheVariants.{Read, Write}
use Rattle.walk.specs.Lookup.{page_of, page_at}
use Rattle.walk.specs.Marks.{top_after, marked_entry, marked}
use Rattle.walk.proofs.Marking.{live_entry, marked_entry_is, marked_other}
use Rattle.transfer.specs.Parts.{over_parts, and_then}
use Rattle.transfer.specs.Scatter.{LivePages, marked_pages}
use Rattle.transfer.specs.Effect.{MarksThere}
use Rattle.transfer.proofs.Grains.{grain_follows}
use Rattle.transfer.proofs.Alikes.{good_alike, marked_alike}
use Rattle.transfer.proofs.Markings.{live_after}
use Rattle.transfer.proofs.Gathering.{whole_grain}

-- whether a page is in a list
abbrev pub has : ℕ → List ℕ → Bool
has k [] = false
has k (j ∷ js) = eqb j k || has k js

has_append : (k : ℕ) (xs ys : List ℕ) → has k xs ≡ true → has k (xs ++ ys) ≡ true
has_append k [] ys e = absurd (false≢true e)
has_append k (j ∷ xs) ys e = ⊎_elim (λ here. or_left (eqb j k) (has k (xs ++ ys)) here) (λ later. or_right (eqb j k) (has k (xs ++ ys)) (has_append k xs ys later)) (or_cases (eqb j k) (has k xs) e)

has_last : (k : ℕ) (xs : List ℕ) → has k (xs ++ (k ∷ [])) ≡ true
has_last k [] = or_left (eqb k k) false (eq-eqb k k refl)
has_last k (j ∷ xs) = or_right (eqb j k) (has k (xs ++ (k ∷ []))) (has_last k xs)

split_last : (k j : ℕ) (xs : List ℕ) → has k (xs ++ (j ∷ [])) ≡ true → (has k xs ≡ true) ⊎ (j ≡ k)
split_last k j [] e = ⊎_elim (λ here. inr (eqb-true j k here)) (λ none. absurd (false≢true none)) (or_cases (eqb j k) false e)
split_last k j (i ∷ xs) e = ⊎_elim
    (λ here. inl (or_left (eqb i k) (has k xs) here))
    (λ later. ⊎_elim (λ a. inl (or_right (eqb i k) (has k xs) a)) (λ b. inr b) (split_last k j xs later))
    (or_cases (eqb i k) (has k (xs ++ (j ∷ []))) e)

module _ (l : Layout) (k : ℕ) where
  -- what is in the list stays in it
  stays : (first : Bool) (s n : ℕ) (xs : List ℕ) → has k xs ≡ true → has k (over_parts l.grain (and_then (page_at l)) first s n xs) ≡ true
  unfolding over_parts
  stays first s zero xs e = e
  stays first s (suc n) xs e = stays false (suc s) n (cond (first || eqb (s % l.grain) 0) (xs ++ (page_at l s ∷ [])) xs) (by (first || eqb (s % l.grain) 0)) where
    by : (b : Bool) → has k (cond b (xs ++ (page_at l s ∷ [])) xs) ≡ true
    by true = has_append k xs (page_at l s ∷ []) e
    by false = e

  -- each page of the list was in it, or is that of a byte of the run
  pub from_byte : (first : Bool) (s n : ℕ) (xs : List ℕ) → has k (over_parts l.grain (and_then (page_at l)) first s n xs) ≡ true → (has k xs ≡ true) ⊎ ((i : ℕ) × (s ≤ i) × (i < s + n) × (page_at l i ≡ k))
  unfolding over_parts
  from_byte first s zero xs e = inl e
  from_byte first s (suc n) xs e = ⊎_elim
      (λ was. by (first || eqb (s % l.grain) 0) was)
      (λ later. inr (later.0, omega (arith, later.1), omega (arith, later.2), later.3))
      (from_byte false (suc s) n (cond (first || eqb (s % l.grain) 0) (xs ++ (page_at l s ∷ [])) xs) e) where
        by : (b : Bool) → has k (cond b (xs ++ (page_at l s ∷ [])) xs) ≡ true → (has k xs ≡ true) ⊎ ((i : ℕ) × (s ≤ i) × (i < s + suc n) × (page_at l i ≡ k))
        by true was = ⊎_elim (λ a. inl a) (λ b. inr (s, omega arith, omega arith, b)) (split_last k (page_at l s) xs was)
        by false was = inl was

same_page : (l : Layout) → Lawful l → (s v : ℕ) → s + 2 ≤ l.image_size → ((s + 1) % l.grain ≡ 0 → ⊥) → l.place s ≡ Some v → page_at l (suc s) ≡ page_at l s
same_page l laws s v inside other at =
    let low : s % l.grain < l.grain = mod-lt s (omega (arith, laws.grain_least)) in
    let room : s % l.grain + 2 ≤ l.grain =
    ⊎_elim (λ less. omega arith) (λ full. absurd (other (whole_grain l.grain s 1 (omega arith)))) (cases_lt (s % l.grain + 1) l.grain) in
    let next = grain_follows l laws s 2 v (record { some = omega arith; grain = room; inside = inside }) at 1 (omega arith) in
    let line : v % 128 + 2 ≤ 128 = next.1 in
    let one : s + 1 ≡ suc s = omega arith in
    ap (page_at l) (sym one) ∙ ap page_of next.0 ∙ omega arith ∙ sym (ap page_of at)

module _ (l : Layout) (laws : Lawful l) where
  -- the page of each byte of a run is in the list
  pub by_byte : (first : Bool) (s n : ℕ) (xs : List ℕ) → s + n ≤ l.image_size → ((i : ℕ) → s ≤ i → i < s + n → (v : ℕ) × (l.place i ≡ Some v)) → (first ≡ true) ⊎ ((s % l.grain ≡ 0) ⊎ (has (page_at l s) xs ≡ true)) → (i : ℕ) → s ≤ i → i < s + n → has (page_at l i) (over_parts l.grain (and_then (page_at l)) first s n xs) ≡ true
  unfolding over_parts
  by_byte first s zero xs inside each begin i low high = absurd (omega arith)
  by_byte first s (suc n) xs inside each begin i low high =
      let ys : List ℕ = cond (first || eqb (s % l.grain) 0) (xs ++ (page_at l s ∷ [])) xs in
      ⊎_elim
      (λ here. ap (λ j. has (page_at l j) (over_parts l.grain (and_then (page_at l)) false (suc s) n ys)) here ∙ stays l (page_at l s) false (suc s) n ys here_in)
      (λ later.
      by_byte false (suc s) n ys (omega arith) (λ j from below. each j (omega arith) (omega arith))
      (⊎_elim (λ edge. inr (inl edge)) (λ other.
      let at = each s (omega arith) (omega arith) in
      let one : s + 1 ≡ suc s = omega arith in
      inr (inr (ap (λ q. has q ys) (same_page l laws s at.0 (omega (arith, low, later)) (λ z. other (sym (ap (λ q. q % l.grain) one) ∙ z)) at.1) ∙ here_in)))
      (cases_eq (suc s % l.grain) 0))
      i (omega arith) (omega arith))
      (cases_eq i s) where
        by : (b : Bool) → first || eqb (s % l.grain) 0 ≡ b → has (page_at l s) (cond b (xs ++ (page_at l s ∷ [])) xs) ≡ true
        by true is = has_last (page_at l s) xs
        by false is =
            let none = or_parts first (eqb (s % l.grain) 0) is in
            ⊎_elim
            (λ a. absurd (false≢true (sym none.0 ∙ a)))
            (λ b. ⊎_elim (λ edge. absurd (false≢true (sym none.1 ∙ eq-eqb (s % l.grain) 0 edge))) (λ was. was) b)
            begin

        here_in : has (page_at l s) (cond (first || eqb (s % l.grain) 0) (xs ++ (page_at l s ∷ [])) xs) ≡ true
        here_in = by (first || eqb (s % l.grain) 0) refl

again : (access : Access) (e : Entry) → marked_entry access (marked_entry access e) ≡ marked_entry access e
again Read e = refl
again Write e = refl

but_marks : (access : Access) (b : Bool) (e : Entry) → SameButMarks e (cond b (marked_entry access e) e)
but_marks Read true e = record { valid = refl; out = refl; frame = refl }
but_marks Write true e = record { valid = refl; out = refl; frame = refl }
but_marks access false e = record { valid = refl; out = refl; frame = refl }

marked_cell : (t : Table) (access : Access) (m : Meaning) (j p : ℕ) → (p ≡ entry_address t j → ⊥) → (marked t access j m).cell p ≡ m.cell p
unfolding marked
marked_cell t access m j p out = stored_outside m (entry_address t j) (top_after access (value (m.cell (entry_address t j))) ∷ []) p (⊎_elim (λ low. inl low) (λ high. inr (omega (arith, out))) (cases_lt p (entry_address t j)))

-- what the marks of a list of pages leave
pub record Left (l : Layout) (access : Access) (ks : List ℕ) (m n : Meaning) : Type 0 where
  pub size : n.size ≡ m.size
  pub cells : (p : ℕ) → (MarksThere l m p → ⊥) → n.cell p ≡ m.cell p
  pub walks : (s : ℕ) → walked l n s ≡ walked l m s
  pub frames : (k : ℕ) → k < (table_of l).entries → frame_of (table_of l) n k ≡ frame_of (table_of l) m k
  pub entries : (k : ℕ) (e : Entry) → k < (table_of l).entries → entry_read m (entry_address (table_of l) k) ≡ Ok e → entry_read n (entry_address (table_of l) k) ≡ Ok (cond (has k ks) (marked_entry access e) e)
  pub faults : (k : ℕ) (f : Fault) → k < (table_of l).entries → entry_read m (entry_address (table_of l) k) ≡ Err f → entry_read n (entry_address (table_of l) k) ≡ Err f

module _ (l : Layout) (laws : Lawful l) (access : Access) where
  pub marks_left : (ks : List ℕ) (m : Meaning) → GoodTable (table_of l) m → LivePages (table_of l) m ks → Left l access ks m (marked_pages (table_of l) access ks m)
  unfolding marked_pages
  marks_left [] m good live = record { size = refl; cells = λ p out. refl; walks = λ s. refl; frames = λ k low. refl; entries = λ k e low is. is; faults = λ k f low is. is }
  marks_left (j ∷ js) m good live =
      let t = table_of l in
      let x = live_entry t m j live.1 in
      let n : Meaning = marked t access j m in
      let alike = marked_alike l laws m good access j live.0 live.1 in
      let rest = marks_left js n (good_alike l m n alike good) (live_after l m n alike.frames js live.2) in
      record {
        size = rest.size ∙ alike.size;
        cells = λ p out.
            let first : p ≡ entry_address t j → ⊥ = λ at. out (record { page = j; entry = x.0; low = live.0; address = at; read = x.1 }) in
            let later : MarksThere l n p → ⊥ = λ marks. ⊎_elim
            (λ same. first (marks.address ∙ ap (entry_address t) same))
            (λ other. out (record { page = marks.page; entry = marks.entry; low = marks.low; address = marks.address; read = sym (marked_other t access j m x.0 x.1 marks.page other) ∙ marks.read }))
            (cases_eq marks.page j) in
            rest.cells p later ∙ marked_cell t access m j p first;
        walks = λ s. rest.walks s ∙ alike.walks s;
        frames = λ k low. rest.frames k low ∙ alike.frames k low;
        entries = λ k e low is. ⊎_elim
            (λ same.
            let here : entry_read n (entry_address t k) ≡ Ok (marked_entry access e) =
            ap (λ i. entry_read n (entry_address t i)) same ∙ marked_entry_is t access j m e (sym (ap (λ i. entry_read m (entry_address t i)) same) ∙ is) in
            rest.entries k (marked_entry access e) low here
            ∙ ap Ok (twice (has k js) e)
            ∙ ap (λ b. Ok (cond b (marked_entry access e) e)) (sym (or_left (eqb j k) (has k js) (eq-eqb j k (sym same)))))
            (λ other.
            rest.entries k e low (marked_other t access j m x.0 x.1 k other ∙ is)
            ∙ ap (λ b. Ok (cond (b || has k js) (marked_entry access e) e)) (sym (ne_eqb j k (λ z. other (sym z)))))
            (cases_eq k j);
        faults = λ k f low is. rest.faults k f low (⊎_elim
            (λ same. absurd (never (sym x.1 ∙ sym (ap (λ i. entry_read m (entry_address t i)) same) ∙ is)))
            (λ other. marked_other t access j m x.0 x.1 k other ∙ is)
            (cases_eq k j));
      } where
        never : {e : Entry} {f : Fault} → ◌≡◌ {A = Result Entry Fault} (Ok e) (Err f) → ⊥
        never z = absurd cc

        twice : (b : Bool) (e : Entry) → cond b (marked_entry access (marked_entry access e)) (marked_entry access e) ≡ marked_entry access e
        twice true e = again access e
        twice false e = refl

-- the entries are of one class before and after
pub left_class : (l : Layout) (access : Access) (ks : List ℕ) (m n : Meaning) → Left l access ks m n → SameTable (table_of l) m n
left_class l access ks m n left k low = by (entry_read m (entry_address (table_of l) k)) refl where
  by : (r : Result Entry Fault) → entry_read m (entry_address (table_of l) k) ≡ r → SameRead r (entry_read n (entry_address (table_of l) k))
  by (Ok e) is = subst (SameRead (Ok e)) (sym (left.entries k e low is)) (but_marks access (has k ks) e)
  by (Err f) is = subst (SameRead (Err f)) (sym (left.faults k f low is)) refl
