-- What a call changes below, byte by byte and mark by mark. Assumes nothing.
use Rattle.std.proofs.Common.{◌≡◌, ℕ, zero, suc, ◌+◌, ◌%◌, ◌<◌, ◌≤◌, Bool, true, false, cond, ◌||◌, eqb, ◌⊎◌, List, [], ◌∷◌, ◌++◌, length, is_ok, Some, Ok, Err, Result, sym, refl, ap, ◌∙◌, subst, inl, inr, ⊎_elim, mod-lt, arith}
use Rattle.std.proofs.lemmas.Bool.{cases_lt, false≢true}
use Rattle.memory.specs.declared.fault.Fault.{Fault}
use Rattle.memory.specs.Meaning.{Cell, byte, fault, Meaning}
use Rattle.memory.specs.Up.{cell_up}
use Rattle.memory.specs.Reach.{Call, reading, writing, first_cell, cells_of}
use Rattle.memory.specs.Calls.{cell_answer, read_answer, write_answer, stored}
use Rattle.memory.proofs.Calls.{writes_as_reads}
use Rattle.memory.proofs.Writes.{stored_outside, accepted_each, accepted_taken}
use Rattle.mapping.specs.Rules.{Layout}
use Rattle.mapping.specs.Laws.{Lawful}
use Rattle.page_table.specs.declared.entry.Entry.{Entry}
use Rattle.page_table.specs.declared.tlb.Tlb.{Tlb}
use Rattle.page_table.specs.Table.{table_of, entry_address, entry_read, frame_of, GoodTable}
use Rattle.page_table.specs.Class.{SameRead}
use Rattle.page_table.specs.Walk.{walked, cell_behind, viewed, windowed}
use Rattle.page_table.specs.Ready.{Ready}
use Rattle.memory.specs.declared.access.Access.{Access}
use Rattle.memory.specs.declared.access.Access.TheVariants.{Read, Write}
use Rattle.walk.specs.Lookup.{page_of, page_at}
use Rattle.walk.specs.Marks.{marked_entry}
use Rattle.transfer.specs.Parts.{Part, over_parts, and_then, pages_of}
use Rattle.transfer.specs.Scatter.{LivePages, put, scattered}
use Rattle.transfer.specs.Call.{marked_run, below_after_read, below_after_write, below_called}
use Rattle.transfer.specs.Effect.{Accepted, Touches, StandsThere, Effect}
use Rattle.transfer.proofs.Grains.{stands}
use Rattle.transfer.proofs.Alikes.{Alike, good_alike}
use Rattle.transfer.proofs.Storing.{entry_kept, stored_alike}
use Rattle.transfer.proofs.Gathering.{live_more, live_here}
use Rattle.transfer.proofs.Touching.{has, from_byte, by_byte, Left, marks_left, left_class}

-- a byte of the window stands somewhere
somewhere : (l : Layout) (m : Meaning) (s : ℕ) → cell_answer (viewed l m s) ≡ Ok tt → (p : ℕ) × (walked l m s ≡ Ok p)
unfolding viewed
somewhere l m s = by (walked l m s) where
  by : (r : Result ℕ Fault) → cell_answer (cell_behind m r) ≡ Ok tt → (p : ℕ) × (r ≡ Ok p)
  by (Ok p) is = (p, refl)
  by (Err f) is = absurd cc

-- the pages of a run whose bytes all stand somewhere are live
live_over : (l : Layout) → Lawful l → (m : Meaning) (first : Bool) (s n : ℕ) (xs : List ℕ) → LivePages (table_of l) m xs → ((i : ℕ) → s ≤ i → i < s + n → (p : ℕ) × (walked l m i ≡ Ok p)) → LivePages (table_of l) m (over_parts l.grain (and_then (page_at l)) first s n xs)
unfolding over_parts
live_over l laws m first s zero xs live each = live
live_over l laws m first s (suc n) xs live each =
    live_over l laws m false (suc s) n (cond (first || eqb (s % l.grain) 0) (xs ++ (page_at l s ∷ [])) xs) (by (first || eqb (s % l.grain) 0)) (λ i low high. each i (omega arith) (omega arith)) where
      by : (b : Bool) → LivePages (table_of l) m (cond b (xs ++ (page_at l s ∷ [])) xs)
      by true = let p = each s (omega arith) (omega arith) in live_more (table_of l) m xs (page_at l s) live (live_here l laws m s (record { page = page_at l s; address = record { 0 = p.0 } }) refl p.1)
      by false = live

-- what an accepted run leaves of the marks
module _ (l : Layout) (laws : Lawful l) (m : Meaning) (good : GoodTable (table_of l) m) (a n : ℕ) (accepted : read_answer (windowed l m) a n ≡ Ok tt) where
  stand : (i : ℕ) → a ≤ i → i < a + n → (p : ℕ) × (walked l m i ≡ Ok p)
  stand i low high = somewhere l m i (accepted_each (windowed l m) a n accepted i (low, high))

  placed : (i : ℕ) → a ≤ i → i < a + n → (v : ℕ) × (l.place i ≡ Some v)
  placed i low high = let p = stand i low high in let x = stands l laws m i p.0 p.1 in (x.place, x.at)

  inside : a + n ≤ l.image_size
  inside = let t = accepted_taken (windowed l m) a n accepted in t.inside

  run_left : (access : Access) → Left l access (pages_of l a n) m (marked_run l access a n m)
  run_left access = marks_left l laws access (pages_of l a n) m good (live_over l laws m true a n [] tt stand)

  touched_has : (c : Call) (k : ℕ) → first_cell c ≡ a → cells_of c ≡ n → Touches l c k → has k (pages_of l a n) ≡ true
  touched_has c k one two t =
      ap (λ q. has q (pages_of l a n)) (sym t.page ∙ sym (ap page_of t.at))
      ∙ by_byte l laws true a n [] inside placed (inl refl) t.cell (omega (arith, t.from, one)) (omega (arith, t.below, one, two))

  has_touched : (c : Call) (k : ℕ) → first_cell c ≡ a → cells_of c ≡ n → has k (pages_of l a n) ≡ true → Touches l c k
  has_touched c k one two e = ⊎_elim
      (λ none. absurd (false≢true none))
      (λ b.
      let v = placed b.0 b.1 b.2 in
      record { cell = b.0; from = omega (arith, b.1, one); below = omega (arith, b.2, one, two); place = v.0; at = v.1; page = sym (ap page_of v.1) ∙ b.3 })
      (from_byte l k true a n [] e)

same_entry_read : {e d : Entry} (r : Result Entry Fault) → r ≡ Ok e → r ≡ Ok d → d ≡ e
same_entry_read r one two = cc

-- a refused call changes nothing
refused_effect : (l : Layout) (m : Meaning) (c : Call) (f : Fault) → read_answer (windowed l m) (first_cell c) (cells_of c) ≡ Err f → Effect l m m c
refused_effect l m c f refused = record {
  size = refl;
  cells = λ p one two. refl;
  table = λ k low. same (entry_read m (entry_address (table_of l) k));
  walks = λ s. refl;
  referenced = λ k e d low one two. (λ set1. inl (sym (ap (λ x. x.referenced) (same_entry_read _ one two)) ∙ set1), ⊎_elim (λ was. ap (λ x. x.referenced) (same_entry_read _ one two) ∙ was) (λ t. absurd (never (sym t.0 ∙ refused))));
  modified = λ k e d low one two. (λ set1. inl (sym (ap (λ x. x.modified) (same_entry_read _ one two)) ∙ set1), ⊎_elim (λ was. ap (λ x. x.modified) (same_entry_read _ one two) ∙ was) (λ t. absurd (never (sym t.0 ∙ refused))));
} where
  never : ◌≡◌ {A = Result (Unit {0}) Fault} (Ok tt) (Err f) → ⊥
  never z = absurd cc

  same : (r : Result Entry Fault) → SameRead r r
  same (Ok e) = record { valid = refl; out = refl; frame = refl }
  same (Err f) = refl

referenced_if : (access : Access) (b : Bool) (e : Entry) → (cond b (marked_entry access e) e).referenced ≡ (b || e.referenced)
referenced_if Read true e = refl
referenced_if Write true e = refl
referenced_if access false e = refl

modified_if : (b : Bool) (e : Entry) → (cond b (marked_entry Write e) e).modified ≡ (b || e.modified)
modified_if true e = refl
modified_if false e = refl

modified_read : (b : Bool) (e : Entry) → (cond b (marked_entry Read e) e).modified ≡ e.modified
modified_read true e = refl
modified_read false e = refl

or_both : (b x : Bool) → (b || x) ≡ true → (x ≡ true) ⊎ (b ≡ true)
or_both true x e = inr refl
or_both false x e = inl e

or_either : (b x : Bool) → (x ≡ true) ⊎ (b ≡ true) → (b || x) ≡ true
or_either true x e = refl
or_either false x (inl e) = e
or_either false x (inr e) = absurd (false≢true e)

-- what the marks of an accepted call say of one entry
module _ (l : Layout) (laws : Lawful l) (m : Meaning) (good : GoodTable (table_of l) m) (c : Call) (accepted : read_answer (windowed l m) (first_cell c) (cells_of c) ≡ Ok tt) (access : Access) (n : Meaning) (entries : (k : ℕ) (e : Entry) → k < (table_of l).entries → entry_read m (entry_address (table_of l) k) ≡ Ok e → entry_read n (entry_address (table_of l) k) ≡ Ok (cond (has k (pages_of l (first_cell c) (cells_of c))) (marked_entry access e) e)) (k : ℕ) (e d : Entry) (low : k < (table_of l).entries) (was : entry_read m (entry_address (table_of l) k) ≡ Ok e) (now1 : entry_read n (entry_address (table_of l) k) ≡ Ok d) where
  b : Bool
  b = has k (pages_of l (first_cell c) (cells_of c))

  is : d ≡ cond (has k (pages_of l (first_cell c) (cells_of c))) (marked_entry access e) e
  is = same_entry_read _ (entries k e low was) now1

  there : has k (pages_of l (first_cell c) (cells_of c)) ≡ true → Touches l c k
  there = has_touched l laws m good (first_cell c) (cells_of c) accepted c k refl refl

  back : Touches l c k → has k (pages_of l (first_cell c) (cells_of c)) ≡ true
  back = touched_has l laws m good (first_cell c) (cells_of c) accepted c k refl refl

  pub referenced_law : (d.referenced ≡ true → (e.referenced ≡ true) ⊎ (Accepted l m c × Touches l c k)) × ((e.referenced ≡ true) ⊎ (Accepted l m c × Touches l c k) → d.referenced ≡ true)
  referenced_law = (
    λ set1. ⊎_elim inl (λ t. inr (accepted, there t)) (or_both _ e.referenced (sym (ap (λ x. x.referenced) is ∙ referenced_if access _ e) ∙ set1)),
    λ was1. ap (λ x. x.referenced) is ∙ referenced_if access _ e ∙ or_either _ e.referenced (⊎_elim inl (λ t. inr (back t.1)) was1),
  )

module _ (l : Layout) (laws : Lawful l) (m : Meaning) (good : GoodTable (table_of l) m) where
  read_effect_accepted : (a : ℕ) (b : List ℕ) → read_answer (windowed l m) a (length b) ≡ Ok tt → Effect l m (marked_run l Read a (length b) m) (reading a b)
  read_effect_accepted a b accepted =
      let left = run_left l laws m good a (length b) accepted Read in
      record {
        size = left.size;
        cells = λ p one two. left.cells p two;
        table = left_class l Read (pages_of l a (length b)) m (marked_run l Read a (length b) m) left;
        walks = left.walks;
        referenced = referenced_law l laws m good (reading a b) accepted Read (marked_run l Read a (length b) m) left.entries;
        modified = λ k e d low was now1.
            let is : d ≡ cond (has k (pages_of l a (length b))) (marked_entry Read e) e = same_entry_read _ (left.entries k e low was) now1 in
            (λ set1. inl (sym (ap (λ x. x.modified) is ∙ modified_read _ e) ∙ set1), ⊎_elim (λ x. ap (λ x. x.modified) is ∙ modified_read _ e ∙ x) (λ t. absurd t.1));
      }

  pub read_effect : (a : ℕ) (b : List ℕ) → Effect l m (below_after_read l m a (length b)) (reading a b)
  unfolding below_after_read
  read_effect a b = by (read_answer (windowed l m) a (length b)) refl where
    by : (r : Result (Unit {0}) Fault) → read_answer (windowed l m) a (length b) ≡ r → Effect l m (cond (is_ok r) (marked_run l Read a (length b) m) m) (reading a b)
    by (Ok u) is = read_effect_accepted a b is
    by (Err f) is = refused_effect l m (reading a b) f is

-- what k stored bytes leave, whose cells from a on stand by the table in base
record Spread (l : Layout) (base : Meaning) (a k : ℕ) (m n : Meaning) : Type 0 where
  size : n.size ≡ m.size
  cells : (p : ℕ) → ((s : ℕ) → a ≤ s → s < a + k → walked l base s ≡ Ok p → ⊥) → n.cell p ≡ m.cell p
  walks : (s : ℕ) → walked l n s ≡ walked l m s
  entries : (k : ℕ) → k < (table_of l).entries → entry_read n (entry_address (table_of l) k) ≡ entry_read m (entry_address (table_of l) k)

-- each cell of an accepted run is a byte
byte_there : (l : Layout) (m : Meaning) (a n : ℕ) → read_answer (windowed l m) a n ≡ Ok tt → (s p : ℕ) → a ≤ s → s < a + n → walked l m s ≡ Ok p → StandsThere l m p
unfolding viewed
byte_there l m a n accepted s p low high stands =
    let b = behind (m.cell p) (ap (λ r. cell_answer (cell_behind m r)) (sym stands) ∙ accepted_each (windowed l m) a n accepted s (low, high)) in
    record { cell = s; value = b.0; stands = stands; is_byte = b.1 } where
      behind : (c : Cell) → cell_answer (cell_up c) ≡ Ok tt → (b : ℕ) × (c ≡ byte b)
      behind (byte b) e = (b, refl)
      behind (fault f) e = absurd cc

one_byte : (l : Layout) → Lawful l → (s : ℕ) → s < l.image_size → Part l s 1
one_byte l laws s low = record { some = omega arith; grain = let some : 0 < l.grain = omega (arith, laws.grain_least) in let x : s % l.grain < l.grain = mod-lt s some in omega arith; inside = omega arith }

module _ (l : Layout) (laws : Lawful l) (base : Meaning) where
  spread : (bs : List ℕ) (a : ℕ) (m : Meaning) → GoodTable (table_of l) m → ((s : ℕ) → walked l m s ≡ walked l base s) → a + length bs ≤ l.image_size → ((i : ℕ) → a ≤ i → i < a + length bs → (p : ℕ) × (walked l base i ≡ Ok p)) → Spread l base a (length bs) m (scattered l base a bs m)
  unfolding scattered
  spread [] a m good same inside each = record { size = refl; cells = λ p out. refl; walks = λ s. refl; entries = λ k low. refl }
  spread (b ∷ bs) a m good same inside each =
      let p = each a (omega arith) (omega arith) in
      let here : walked l m a ≡ Ok p.0 = same a ∙ p.1 in
      let n : Meaning = stored m p.0 (b ∷ []) in
      let part = one_byte l laws a (omega arith) in
      let alike = stored_alike l laws m good a p.0 (b ∷ []) part here in
      let rest = spread bs (suc a) n (good_alike l m n alike good) (λ s. alike.walks s ∙ same s) (omega arith) (λ i low high. each i (omega arith) (omega arith)) in
      subst (λ r. Spread l base a (length (b ∷ bs)) m (scattered l base (suc a) bs (put m (b ∷ []) r))) (sym p.1)
      (record {
        size = rest.size ∙ alike.size;
        cells = λ q out.
            rest.cells q (λ s low high. out s (omega arith) (omega arith))
            ∙ stored_outside m p.0 (b ∷ []) q (⊎_elim (λ low. inl low) (λ high. inr (next p.0 q high (λ e. out a (omega arith) (omega arith) (p.1 ∙ ap Ok (sym e))))) (cases_lt q p.0));
        walks = λ s. rest.walks s ∙ alike.walks s;
        entries = λ k low. rest.entries k low ∙ entry_kept l laws m good a p.0 (b ∷ []) part here k low;
      }) where
        next : (p q : ℕ) → p ≤ q → (q ≡ p → ⊥) → p + 1 ≤ q
        next p q le other = omega (arith, other)

module _ (l : Layout) (laws : Lawful l) (m : Meaning) (good : GoodTable (table_of l) m) where
  write_effect_accepted : (a : ℕ) (bs : List ℕ) → read_answer (windowed l m) a (length bs) ≡ Ok tt → Effect l m (scattered l (marked_run l Write a (length bs) m) a bs (marked_run l Write a (length bs) m)) (writing a bs)
  write_effect_accepted a bs accepted =
      let x : Meaning = marked_run l Write a (length bs) m in
      let left = run_left l laws m good a (length bs) accepted Write in
      let alike : Alike l m x = record { size = left.size; frames = λ k low. frames k low left; walks = left.walks } in
      let s = spread l laws x bs a x (good_alike l m x alike good) (λ t. refl) (inside l laws m good a (length bs) accepted) (λ i low high. let p = stand l laws m good a (length bs) accepted i low high in (p.0, left.walks i ∙ p.1)) in
      let entries : (k : ℕ) (e : Entry) → k < (table_of l).entries → entry_read m (entry_address (table_of l) k) ≡ Ok e → entry_read (scattered l x a bs x) (entry_address (table_of l) k) ≡ Ok (cond (has k (pages_of l a (length bs))) (marked_entry Write e) e) =
      λ k e low was. s.entries k low ∙ left.entries k e low was in
      record {
        size = s.size ∙ left.size;
        cells = λ p one two. s.cells p (λ t low high e. one (byte_there l m a (length bs) accepted t p low high (sym (left.walks t) ∙ e))) ∙ left.cells p two;
        table = λ k low. subst (SameRead (entry_read m (entry_address (table_of l) k))) (sym (s.entries k low)) (left_class l Write (pages_of l a (length bs)) m x left k low);
        walks = λ t. s.walks t ∙ left.walks t;
        referenced = referenced_law l laws m good (writing a bs) accepted Write (scattered l x a bs x) entries;
        modified = λ k e d low was now1.
            let is : d ≡ cond (has k (pages_of l a (length bs))) (marked_entry Write e) e = same_entry_read _ (entries k e low was) now1 in (
              λ set1. ⊎_elim inl (λ t. inr (accepted, tt, has_touched l laws m good a (length bs) accepted (writing a bs) k refl refl t)) (or_both _ e.modified (sym (ap (λ y. y.modified) is ∙ modified_if _ e) ∙ set1)),
              λ was1. ap (λ y. y.modified) is ∙ modified_if _ e ∙ or_either _ e.modified (⊎_elim inl (λ t. inr (touched_has l laws m good a (length bs) accepted (writing a bs) k refl refl t.2)) was1),
            );
      } where
        frames : (k : ℕ) → k < (table_of l).entries → Left l Write (pages_of l a (length bs)) m (marked_run l Write a (length bs) m) → frame_of (table_of l) (marked_run l Write a (length bs) m) k ≡ frame_of (table_of l) m k
        frames k low left = left.frames k low

  pub write_effect : (a : ℕ) (bs : List ℕ) → Effect l m (below_after_write l m a bs) (writing a bs)
  unfolding below_after_write
  write_effect a bs = by (write_answer (windowed l m) a (length bs)) refl where
    by : (r : Result (Unit {0}) Fault) → write_answer (windowed l m) a (length bs) ≡ r → Effect l m (cond (is_ok r) (scattered l (marked_run l Write a (length bs) m) a bs (marked_run l Write a (length bs) m)) m) (writing a bs)
    by (Ok u) is = write_effect_accepted a bs (sym (writes_as_reads (windowed l m) a (length bs)) ∙ is)
    by (Err f) is = refused_effect l m (writing a bs) f (sym (writes_as_reads (windowed l m) a (length bs)) ∙ is)

-- every call
pub effect_of : (l : Layout) (m : Meaning) (h : Tlb) → Ready l m h → (c : Call) → Effect l m (below_called l m c) c
effect_of l m h ready (reading a b) = read_effect l ready.lawful m ready.table a b
effect_of l m h ready (writing a bs) = write_effect l ready.lawful m ready.table a bs
