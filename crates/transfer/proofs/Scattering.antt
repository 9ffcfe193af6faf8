-- A run that is stored part by part. Assumes nothing.
use Rattle.std.proofs.Common.{◌≡◌, ℕ, zero, suc, ◌+◌, ◌-◌, ◌%◌, ◌<◌, ◌≤◌, min, Bool, true, false, cond, eqb, ◌||◌, List, [], ◌∷◌, ◌++◌, map, length, get_or, take, drop, Ok, Result, sym, refl, ap, ◌∙◌, subst, ⊎_elim, add-zero, add-suc, suc-add, arith}
use native.Mathlib.Nat.{sub-zero}
use Rattle.std.proofs.lemmas.Bool.{cases_lt}
use Rattle.std.proofs.lemmas.List.{length-take, length-drop, take-append-drop, take-take, take_all, drop_all, drop-take, drop-drop, drop_more, append_assoc}
use Rattle.memory.specs.declared.fault.Fault.{Fault}
use Rattle.memory.specs.Meaning.{Meaning}
use Rattle.memory.specs.Calls.{cell_answer, first_fault, stored}
use Rattle.memory.proofs.Overlays.{Inside, cases_run}
use Rattle.memory.proofs.Calls.{first_fault_none}
use Rattle.memory.proofs.Writes.{stored_inside, stored_outside, stored_none, stored_append, first_fault_each}
use Rattle.mapping.specs.Rules.{Layout}
use Rattle.mapping.specs.Laws.{Lawful}
use Rattle.page_table.specs.Table.{table_of, entry_address, entry_read, GoodTable}
use Rattle.page_table.specs.Walk.{walked, viewed, windowed}
use Rattle.walk.specs.declared.spot.Spot.{Spot}
use Rattle.transfer.specs.Parts.{Part, over_parts, and_then, Spotted}
use Rattle.transfer.specs.Scatter.{put, scattered, ScatteredAll}
use Rattle.transfer.proofs.Grains.{walked_follows}
use Rattle.transfer.proofs.Stepping.{Step, step_is, over_grain}
use Rattle.transfer.proofs.Storing.{Stored}

-- a list made part by part only grows
over_prefix : {A : Type 0} (g : ℕ) (f : ℕ → A) (first : Bool) (s n : ℕ) (xs ys : List A) → over_parts g (and_then f) first s n (xs ++ ys) ≡ xs ++ over_parts g (and_then f) first s n ys
unfolding over_parts
over_prefix g f first s zero xs ys = refl
over_prefix {A} g f first s (suc n) xs ys = by (first || eqb (s % g) 0) (over_prefix g f false (suc s) n xs) where
  by : (b : Bool) → ((zs : List A) → over_parts g (and_then f) false (suc s) n (xs ++ zs) ≡ xs ++ over_parts g (and_then f) false (suc s) n zs) → over_parts g (and_then f) false (suc s) n (cond b ((xs ++ ys) ++ (f s ∷ [])) (xs ++ ys)) ≡ xs ++ over_parts g (and_then f) false (suc s) n (cond b (ys ++ (f s ∷ [])) ys)
  by true grow = ap (over_parts g (and_then f) false (suc s) n) (append_assoc xs ys (f s ∷ [])) ∙ grow (ys ++ (f s ∷ []))
  by false grow = grow ys

over_nothing : {X : Type 0} (g : ℕ) (f : ℕ → X → X) (s k : ℕ) (x : X) → k ≡ 0 → over_parts g f true s k x ≡ x
unfolding over_parts
over_nothing g f s k x e = ap (λ i. over_parts g f true s i x) e

-- the first part of what is left
first_part : {A : Type 0} (g : ℕ) (f : ℕ → A) (a n done step : ℕ) → Step g a n done step → over_parts g (and_then f) true (a + done) (n - done) [] ≡ f (a + done) ∷ over_parts g (and_then f) true (a + (done + step)) (n - (done + step)) []
first_part g f a n done step st =
    let at : a + done + step ≡ a + (done + step) = omega arith in
    ap (λ i. over_parts g (and_then f) true (a + done) i []) st.left
    ∙ over_grain g (and_then f) (a + done) step (n - (done + step)) [] st.some st.grain st.end
    ∙ over_prefix g f true (a + done + step) (n - (done + step)) (f (a + done) ∷ []) []
    ∙ ap (λ b. f (a + done) ∷ over_parts g (and_then f) true b (n - (done + step)) []) at

-- a run of bytes is stored part by part
onto_part : (l : Layout) (base m : Meaning) (s p : ℕ) (bs rest : List ℕ) → ((i : ℕ) → i < length bs → walked l base (s + i) ≡ Ok (p + i)) → scattered l base s (bs ++ rest) m ≡ scattered l base (s + length bs) rest (stored m p bs)
unfolding scattered
onto_part l base m s p [] rest each = ap (λ x. scattered l base s rest x) (sym (stored_none m p)) ∙ ap (λ i. scattered l base i rest (stored m p [])) (sym (add-zero s))
onto_part l base m s p (b ∷ bs) rest each =
    let head : walked l base s ≡ Ok p = sym (ap (walked l base) (add-zero s)) ∙ each 0 (omega arith) ∙ ap Ok (add-zero p) in
    let at : suc s + length bs ≡ s + suc (length bs) = omega arith in
    let sp : suc p ≡ p + 1 = omega arith in
    ap (λ r. scattered l base (suc s) (bs ++ rest) (put m (b ∷ []) r)) head
    ∙ onto_part l base (stored m p (b ∷ [])) (suc s) (suc p) bs rest (λ i low. ap (walked l base) (suc-add s i ∙ sym (add-suc s i)) ∙ each (suc i) (omega arith) ∙ ap Ok (add-suc p i ∙ sym (suc-add p i)))
    ∙ ap (scattered l base (suc s + length bs) rest) (stored_append m p (suc p) (b ∷ []) bs sp)
    ∙ ap (λ i. scattered l base i rest (stored m p (b ∷ bs))) at

take_drop : (done step : ℕ) (bs : List ℕ) → take done bs ++ take step (drop done bs) ≡ take (done + step) bs
take_drop done step bs =
    ap (λ xs. take done bs ++ xs) (sym (drop-take done step bs))
    ∙ ap (λ xs. xs ++ drop done (take (done + step) bs)) (sym (take-take done (done + step) bs (omega arith)))
    ∙ take-append-drop done (take (done + step) bs)

abbrev pub place_list : List Spot → List (Result ℕ Fault)
place_list xs = map (λ spot. Ok spot.address.0) xs

-- the run so far, and what is left of it
pub record Scattering (l : Layout) (m : Meaning) (a : ℕ) (bs : List ℕ) (left : List Spot) (done : ℕ) (n : Meaning) : Type 0 where
  pub far : done ≤ length bs
  pub walks : (t : ℕ) → walked l n t ≡ walked l m t
  pub window : windowed l n ≡ stored (windowed l m) a (take done bs)
  pub below : scattered l m a bs m ≡ scattered l m (a + done) (drop done bs) n
  pub table : GoodTable (table_of l) n
  pub entries : (k : ℕ) → k < (table_of l).entries → entry_read n (entry_address (table_of l) k) ≡ entry_read m (entry_address (table_of l) k)
  pub places : place_list left ≡ over_parts l.grain (and_then (walked l m)) true (a + done) (length bs - done) []

pub scattering_none : (l : Layout) (m : Meaning) (a : ℕ) (bs : List ℕ) (spots : List Spot) → GoodTable (table_of l) m → Spotted l m a (length bs) spots → Scattering l m a bs spots 0 m
scattering_none l m a bs spots good spotted = record {
  far = omega arith;
  walks = λ t. refl;
  window = sym (stored_none (windowed l m) a);
  below = ap (λ i. scattered l m i bs m) (sym (add-zero a));
  table = good;
  entries = λ k low. refl;
  places = spotted.places ∙ ap (λ b. over_parts l.grain (and_then (walked l m)) true b (length bs) []) (sym (add-zero a)) ∙ ap (λ i. over_parts l.grain (and_then (walked l m)) true (a + 0) i []) (sym (sub-zero (length bs)));
}

stored_fine : (w : Meaning) (a : ℕ) (xs : List ℕ) (b n : ℕ) → ((i : ℕ) → Inside b n i → cell_answer (w.cell i) ≡ Ok tt) → first_fault (stored w a xs).cell b n ≡ Ok tt
stored_fine w a xs b n each = first_fault_none (stored w a xs).cell b n (λ i low high. ⊎_elim
    (λ run. ap cell_answer (stored_inside w a xs i run))
    (λ run. ap cell_answer (stored_outside w a xs i run) ∙ each i (low, high))
    (cases_run a (length xs) i))

-- where spots are left, so are bytes
module _ (l : Layout) (laws : Lawful l) (m : Meaning) (a : ℕ) (bs : List ℕ) (spot : Spot) (later : List Spot) (done : ℕ) (n : Meaning) (f : Scattering l m a bs (spot ∷ later) done n) where
  pub bytes_left : done < length bs
  bytes_left = ⊎_elim (λ more. more) (λ none. absurd (empty none)) (cases_lt done (length bs)) where
    empty : length bs ≤ done → ⊥
    empty past =
        let e : place_list (spot ∷ later) ≡ [] = f.places ∙ over_nothing l.grain (and_then (walked l m)) (a + done) (length bs - done) [] (omega arith) in
        absurd (let z : ◌≡◌ {A = ℕ} (suc (length (place_list later))) 0 = ap length e in omega arith)

  module _ (step : ℕ) (is : step ≡ min (l.grain - (a + done) % l.grain) (length bs - done)) (image : a + length bs ≤ l.image_size) (accepted : first_fault (viewed l m) a (length bs) ≡ Ok tt) (part : List ℕ) (part_is : part ≡ take step (drop done bs)) where
    st : Step l.grain a (length bs) done step
    st = step_is l.grain a (length bs) done step (omega (arith, laws.grain_least)) bytes_left is

    pub room : done + step ≤ length bs
    room = st.room

    pub part_length : length part ≡ step
    part_length = ap length part_is ∙ simp (length-take, length-drop) (omega (arith, st.room))

    pub store_part : Part l (a + done) (length part)
    store_part = subst (Part l (a + done)) (sym part_length) (record { some = st.some; grain = st.grain; inside = omega (arith, st.room) })

    split_places : place_list (spot ∷ later) ≡ walked l m (a + done) ∷ over_parts l.grain (and_then (walked l m)) true (a + (done + step)) (length bs - (done + step)) []
    split_places = f.places ∙ first_part l.grain (walked l m) a (length bs) done step st

    -- the spot is that of this part
    pub stands_here : walked l n (a + done) ≡ Ok spot.address.0
    stands_here = f.walks (a + done) ∙ sym (ap (λ xs. get_or xs 0 (Ok 0)) split_places)

    later_places : place_list later ≡ over_parts l.grain (and_then (walked l m)) true (a + (done + step)) (length bs - (done + step)) []
    later_places = ap (drop 1) split_places

    pub store_accepted : first_fault (viewed l n) (a + done) (length part) ≡ Ok tt
    store_accepted =
        ap (λ w. first_fault w.cell (a + done) (length part)) f.window
        ∙ stored_fine (windowed l m) a (take done bs) (a + done) (length part) (λ i run. first_fault_each (viewed l m) a (length bs) accepted i (omega (arith, run.0), omega (arith, run.1, part_length, st.room)))

    pub scattering_more : (x : Meaning) → Stored l n x (a + done) part → Scattering l m a bs later (done + step) x
    scattering_more x new =
        let long : length (take done bs) ≡ done = simp length-take (omega (arith, f.far)) in
        let each : (i : ℕ) → i < length part → walked l m (a + done + i) ≡ Ok (spot.address.0 + i) =
        λ i low. sym (f.walks (a + done + i)) ∙ walked_follows l laws n (a + done) (length part) spot.address.0 store_part stands_here i low in
        let split : drop done bs ≡ part ++ drop (done + step) bs =
        sym (take-append-drop step (drop done bs)) ∙ ap (λ xs. xs ++ drop step (drop done bs)) (sym part_is) ∙ ap (λ xs. part ++ xs) (drop-drop step done bs) in
        let at : a + done + length part ≡ a + (done + step) = omega (arith, part_length) in
        record {
          far = st.room;
          walks = λ t. new.walks t ∙ f.walks t;
          window = new.window ∙ ap (λ w. stored w (a + done) part) f.window
              ∙ stored_append (windowed l m) a (a + done) (take done bs) part (omega (arith, long))
              ∙ ap (stored (windowed l m) a) (ap (λ xs. take done bs ++ xs) part_is ∙ take_drop done step bs);
          below = f.below ∙ ap (λ xs. scattered l m (a + done) xs n) split ∙ onto_part l m n (a + done) spot.address.0 part (drop (done + step) bs) each
              ∙ ap (λ i. scattered l m i (drop (done + step) bs) (stored n spot.address.0 part)) at
              ∙ ap (scattered l m (a + (done + step)) (drop (done + step) bs)) (sym (new.below ∙ ap (put n part) stands_here));
          table = new.table;
          entries = λ k low. new.entries k low ∙ f.entries k low;
          places = later_places;
        }

pub scattering_all : (l : Layout) → Lawful l → (m : Meaning) (a : ℕ) (bs : List ℕ) (done : ℕ) (n : Meaning) (left : List Spot) → left ≡ [] → Scattering l m a bs left done n → ScatteredAll l m a bs n
unfolding scattered
scattering_all l laws m a bs done n left none f =
    record {
      window = f.window ∙ ap (stored (windowed l m) a) (take_all done bs all);
      below = sym (f.below ∙ ap (λ xs. scattered l m (a + done) xs n) (drop_all done bs all));
      table = f.table;
      entries = f.entries;
    } where
      all : length bs ≤ done
      all = ⊎_elim
          (λ more.
          let st = step_is l.grain a (length bs) done (min (l.grain - (a + done) % l.grain) (length bs - done)) (omega (arith, laws.grain_least)) more refl in
          let e = sym (ap place_list none) ∙ f.places ∙ first_part l.grain (walked l m) a (length bs) done (min (l.grain - (a + done) % l.grain) (length bs - done)) st in
          absurd (let z : ◌≡◌ {A = ℕ} 0 (suc _) = ap length e in omega arith))
          (λ past. past)
          (cases_lt done (length bs))

-- the spot that is next, and those after it
pub next_spot : {l : Layout} {m : Meaning} {a : ℕ} {bs : List ℕ} {done : ℕ} {n : Meaning} (spots : List Spot) (i : ℕ) (d : Spot) → i < length spots → Scattering l m a bs (drop i spots) done n → Scattering l m a bs (get_or spots i d ∷ drop (i + 1) spots) done n
next_spot {l} {m} {a} {bs} {done} {n} spots i d low x = subst (λ left. Scattering l m a bs left done n) (drop_more spots i d low) x
