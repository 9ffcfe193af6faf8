-- The run so far, and what is left of it, as it is gathered. Assumes nothing.
use Rattle.std.proofs.Common.{◌≡◌, ℕ, zero, suc, ◌+◌, ◌-◌, ◌*◌, ◌/◌, ◌%◌, ◌<◌, ◌≤◌, min, true, cond, List, [], ◌∷◌, ◌++◌, map, length, take, drop, set, is_ok, is_some, Ok, Err, Result, sym, refl, ap, ◌∙◌, subst, ⊎_elim, add-zero, suc-add, suc-mul, zero-add, div-add-mod', arith}
use native.Mathlib.Nat.{sub-zero, mul-mod_left, mod-le, zero-mod}
use borrow.Rule.Slice.PartMut.{put_mid}
use Rattle.std.specs.Result.{result_and, result_map_both}
use Rattle.std.proofs.lemmas.Slice.{take-put_mid}
use Rattle.std.proofs.Math.Seq.{take-suc-set}
use Rattle.std.proofs.lemmas.List.{take_all, length-take, length-drop, length-set, map-append}
use Rattle.std.proofs.lemmas.Bool.{cases_eq}
use Rattle.memory.specs.declared.fault.Fault.{Fault}
use Rattle.memory.specs.Meaning.{Cell, byte, fault, Meaning}
use Rattle.memory.specs.Calls.{cell_answer, first_fault, value, bytes}
use Rattle.memory.proofs.Calls.{length_bytes}
use Rattle.memory.proofs.Overlays.{length_overlaid, overlaid_part}
use Rattle.mapping.specs.Rules.{Layout}
use Rattle.units.specs.Power.{is_power_of_two}
use Rattle.units.proofs.Powers.{power_divides, power_pow}
use Rattle.mapping.proofs.Multiples.{times_multiple, skip_multiple}
use Rattle.mapping.specs.Laws.{Lawful}
use Rattle.page_table.specs.declared.tlb.Tlb.{Tlb}
use Rattle.page_table.specs.Walk.{walked, viewed}
use Rattle.walk.specs.declared.spot.Spot.{Spot}
use Rattle.walk.specs.Lookup.{looked_at, page_of, page_at}
use Rattle.page_table.specs.declared.table.Table.{Table}
use Rattle.page_table.specs.Table.{table_of, frame_of}
use Rattle.transfer.specs.Scatter.{LivePages}
use Rattle.transfer.proofs.Grains.{stands, live_at}
use Rattle.transfer.specs.Parts.{Part, over_parts, and_then, pages_of, places_of, Spotted}
use Rattle.transfer.specs.Lookups.{lookups_from, lookups_of}
use Rattle.transfer.proofs.Stepping.{Step, step_is, over_none, over_more, over_all}
use Rattle.transfer.proofs.Looking.{tally_grain}

and_assoc : (x : Cell) (r s : Result (Unit {0}) Fault) → result_and (cell_answer x) (result_and r s) ≡ result_and (result_and (cell_answer x) r) s
and_assoc (byte b) r s = refl
and_assoc (fault f) r s = refl

pub faults_split : (c : ℕ → Cell) (a i j : ℕ) → first_fault c a (i + j) ≡ result_and (first_fault c a i) (first_fault c (a + i) j)
unfolding first_fault
faults_split c a zero j = ap (first_fault c a) (zero-add j) ∙ ap (λ b. first_fault c b j) (sym (add-zero a))
faults_split c a (suc i) j =
    ap (first_fault c a) (suc-add i j)
    ∙ ap (result_and (cell_answer (c a))) (faults_split c (suc a) i j ∙ ap (λ b. result_and (first_fault c (suc a) i) (first_fault c b j)) (omega arith))
    ∙ and_assoc (c a) (first_fault c (suc a) i) (first_fault c (a + suc i) j)

pub bytes_split : (c : ℕ → Cell) (a i j : ℕ) → bytes c a (i + j) ≡ bytes c a i ++ bytes c (a + i) j
unfolding bytes
bytes_split c a zero j = ap (bytes c a) (zero-add j) ∙ ap (λ b. bytes c b j) (sym (add-zero a))
bytes_split c a (suc i) j =
    ap (bytes c a) (suc-add i j)
    ∙ ap (λ xs. value (c a) ∷ xs) (bytes_split c (suc a) i j ∙ ap (λ b. bytes c (suc a) i ++ bytes c b j) (omega arith))

abbrev pub page_list : List Spot → List ℕ
page_list xs = map (λ spot. spot.page) xs

abbrev pub place_list : List Spot → List (Result ℕ Fault)
place_list xs = map (λ spot. Ok spot.address.0) xs

-- the rest of an address in its grain is no more than in its line
low_rest : (l : Layout) → Lawful l → (a : ℕ) → a % l.grain ≤ a % 128
low_rest l laws a =
    let whole : 128 % l.grain ≡ 0 = power_divides l.grain 128 (subst (λ n. is_power_of_two n ≡ true) (sym laws.grain_power.1) (power_pow laws.grain_power.0)) (power_pow 7) laws.grain_most in
    let split : a / 128 * 128 + a % 128 ≡ a = div-add-mod' a 128 in
    let same : a % l.grain ≡ (a % 128) % l.grain = sym (ap (λ n. n % l.grain) split) ∙ skip_multiple (a / 128 * 128) (a % 128) l.grain (times_multiple (a / 128) 128 l.grain whole) in
    let low = mod-le (a % 128) l.grain in
    omega arith

-- after the whole rest of a grain, the next begins
pub whole_grain : (g s n : ℕ) → s % g + n ≡ g → (s + n) % g ≡ 0
whole_grain g s n full =
    let split : s / g * g + s % g ≡ s = div-add-mod' s g in
    let more : suc (s / g) * g ≡ s / g * g + g = suc-mul (s / g) g in
    let at : s + n ≡ suc (s / g) * g + 0 = omega arith in
    ap (λ i. i % g) at ∙ skip_multiple (suc (s / g) * g) 0 g (mul-mod_left (suc (s / g)) g) ∙ zero-mod g

-- one live page more
pub live_more : (t : Table) (m : Meaning) (ks : List ℕ) (k : ℕ) → LivePages t m ks → (k < t.entries) × (is_some (frame_of t m k) ≡ true) → LivePages t m (ks ++ (k ∷ []))
live_more t m [] k live here = (here.0, here.1, tt)
live_more t m (j ∷ ks) k live here = (live.0, live.1, live_more t m ks k live.2 here)

-- the page where a walk led has a live entry
pub live_here : (l : Layout) → Lawful l → (m : Meaning) (s : ℕ) (spot : Spot) → spot.page ≡ page_at l s → walked l m s ≡ Ok spot.address.0 → (spot.page < (table_of l).entries) × (is_some (frame_of (table_of l) m spot.page) ≡ true)
live_here l laws m s spot page place =
    let x = stands l laws m s spot.address.0 place in
    let same : x.place / 4096 ≡ spot.page = sym (page ∙ ap page_of x.at) in
    (subst (λ k. k < (table_of l).entries) same x.low, ap (λ k. is_some (frame_of (table_of l) m k)) (sym same) ∙ ap is_some (live_at l m s spot.address.0 x).frame)

pub record Gathered (l : Layout) (m : Meaning) (before : Tlb) (a n done : ℕ) (h : Tlb) (line : List ℕ) (count : ℕ) (spots : List Spot) : Type 0 where
  pub far : done ≤ n
  pub long : length line ≡ n
  pub read_answer : first_fault (viewed l m) a n ≡ first_fault (viewed l m) (a + done) (n - done)
  pub front : take done line ≡ bytes (viewed l m) a done
  pub lookups : lookups_of l m a n before ≡ lookups_of l m (a + done) (n - done) h
  pub pages : pages_of l a n ≡ over_parts l.grain (and_then (page_at l)) true (a + done) (n - done) (page_list (take count spots))
  pub places : places_of l m a n ≡ over_parts l.grain (and_then (walked l m)) true (a + done) (n - done) (place_list (take count spots))
  pub room : length spots ≡ 32
  pub few : count ≤ 32
  pub boundary : done < n → count * 4 ≤ a % 128 + done
  pub aligned : 0 < done → done < n → (a + done) % l.grain ≡ 0
  pub fresh : done ≡ 0 → count ≡ 0
  pub live : LivePages (table_of l) m (page_list (take count spots))

pub gathered_none : (l : Layout) (m : Meaning) (h : Tlb) (a : ℕ) (line : List ℕ) (spots : List Spot) → length spots ≡ 32 → Gathered l m h a (length line) 0 h line 0 spots
unfolding bytes
gathered_none l m h a line spots room = record {
  far = omega arith;
  long = refl;
  read_answer = ap (λ b. first_fault (viewed l m) b (length line)) (sym (add-zero a)) ∙ ap (first_fault (viewed l m) (a + 0)) (sym (sub-zero (length line)));
  front = refl;
  lookups = ap (λ b. lookups_of l m b (length line) h) (sym (add-zero a)) ∙ ap (λ i. lookups_of l m (a + 0) i h) (sym (sub-zero (length line)));
  pages = over_none l.grain (and_then (page_at l)) a (length line) [];
  places = over_none l.grain (and_then (walked l m)) a (length line) [];
  room = room;
  few = omega arith;
  boundary = λ more. omega arith;
  aligned = λ some more. absurd (omega arith);
  fresh = λ none. refl;
  live = tt;
}

-- the part of step bytes that is gathered next
pub record NextPart (l : Layout) (m : Meaning) (before : Tlb) (a n done : ℕ) (h : Tlb) (line : List ℕ) (count : ℕ) (spots : List Spot) (step : ℕ) : Type 0 where
  pub lawful : Lawful l
  pub so_far : Gathered l m before a n done h line count spots
  pub more : done < n
  pub fits : a % 128 + n ≤ 128
  pub image : a + n ≤ l.image_size
  pub is : step ≡ min (l.grain - (a + done) % l.grain) (n - done)

-- its place in the line
abbrev pub part_of : ℕ → ℕ → List ℕ → List ℕ
part_of done step line = take (done + step - done) (drop done line)

module _ {l : Layout} {m : Meaning} {before : Tlb} {a n done : ℕ} {h : Tlb} {line : List ℕ} {count : ℕ} {spots : List Spot} {step : ℕ} (x : NextPart l m before a n done h line count spots step) where
  f : Gathered l m before a n done h line count spots
  f = x.so_far

  st : Step l.grain a n done step
  st = step_is l.grain a n done step (omega (arith, x.lawful.grain_least)) x.more x.is

  -- the answer of the run and its lookups, by the answer of the part
  answered : (r : Result (Unit {0}) Fault)
      → first_fault (viewed l m) (a + done) step ≡ r
      → first_fault (viewed l m) a n ≡ result_and r (first_fault (viewed l m) (a + done + step) (n - (done + step)))
  answered r is =
      f.read_answer ∙ ap (first_fault (viewed l m) (a + done)) st.left ∙ faults_split (viewed l m) (a + done) step (n - (done + step))
      ∙ ap (λ r. result_and r (first_fault (viewed l m) (a + done + step) (n - (done + step)))) is

  looks : (r : Result (Unit {0}) Fault)
      → first_fault (viewed l m) (a + done) step ≡ r
      → lookups_of l m a n before ≡ cond (is_ok r) (lookups_of l m (a + done + step) (n - (done + step)) (looked_at l m h (a + done))) (looked_at l m h (a + done))
  looks r is =
      let part : Part l (a + done) step = record { some = st.some; grain = st.grain; inside = omega (arith, st.room, x.image) } in
      f.lookups ∙ ap (λ i. lookups_of l m (a + done) i h) st.left ∙ tally_grain l m (a + done) step (n - (done + step)) h part st.end
      ∙ ap (λ r. cond (is_ok r) (lookups_of l m (a + done + step) (n - (done + step)) (looked_at l m h (a + done))) (looked_at l m h (a + done))) is

  slot_free : count < 32
  slot_free = omega (arith, f.boundary x.more, x.fits)

  -- a spot more in the list
  noted_spot : {A : Type 0} (g : Spot → A) (spot : Spot) → map g (take (count + 1) (set spots count spot)) ≡ map g (take count spots) ++ (g spot ∷ [])
  noted_spot g spot =
      let next : suc count ≡ count + 1 = omega arith in
      ap (λ i. map g (take i (set spots count spot))) (sym next)
      ∙ ap (map g) (take-suc-set spots count spot (omega (arith, slot_free, f.room)))
      ∙ map-append g (take count spots) (spot ∷ [])

  full_part : (a + done) % l.grain + step ≡ l.grain → (count + 1) * 4 ≤ a % 128 + (done + step)
  full_part full = ⊎_elim
      (λ first. omega (arith, f.fresh first, low_rest l x.lawful a, full, x.lawful.grain_least, ap (λ d. (a + d) % l.grain) first, ap (λ b. b % l.grain) (add-zero a)))
      (λ later. omega (arith, f.boundary x.more, f.aligned (omega (arith, later)) x.more, full, x.lawful.grain_least))
      (cases_eq done 0)

  more_gathered : (part : List ℕ) (spot : Spot)
      → first_fault (viewed l m) (a + done) step ≡ Ok tt
      → part ≡ bytes (viewed l m) (a + done) step
      → spot.page ≡ page_at l (a + done)
      → walked l m (a + done) ≡ Ok spot.address.0
      → Gathered l m before a n (done + step) (looked_at l m h (a + done)) (put_mid done (done + step - done) line part) (count + 1) (set spots count spot)
  more_gathered part spot good new page place =
      let same : done + step - done ≡ step = omega arith in
      let long : length part ≡ step = ap length new ∙ length_bytes (viewed l m) (a + done) step in
      let at : a + done + step ≡ a + (done + step) = omega arith in
      record {
        far = st.room;
        long = ap length (overlaid_part line part done (done + step - done) (same ∙ sym long)) ∙ length_overlaid line part done (omega (arith, f.long, long, st.room)) ∙ f.long;
        read_answer = answered (Ok tt) good ∙ ap (λ b. first_fault (viewed l m) b (n - (done + step))) at;
        front = take-put_mid done (done + step - done) line part (done + step) (omega (arith, long)) (omega (arith, f.long, st.room))
            ∙ ap (λ xs. xs ++ part) f.front ∙ ap (λ xs. bytes (viewed l m) a done ++ xs) new ∙ sym (bytes_split (viewed l m) a done step);
        lookups = looks (Ok tt) good ∙ ap (λ b. lookups_of l m b (n - (done + step)) (looked_at l m h (a + done))) at;
        pages = over_more l.grain (and_then (page_at l)) a n [] done step (page_list (take count spots)) st f.pages
            ∙ ap (over_parts l.grain (and_then (page_at l)) true (a + (done + step)) (n - (done + step))) (ap (λ k. page_list (take count spots) ++ (k ∷ [])) (sym page) ∙ sym (noted_spot (λ s. s.page) spot));
        places = over_more l.grain (and_then (walked l m)) a n [] done step (place_list (take count spots)) st f.places
            ∙ ap (over_parts l.grain (and_then (walked l m)) true (a + (done + step)) (n - (done + step))) (ap (λ w. place_list (take count spots) ++ (w ∷ [])) place ∙ sym (noted_spot (λ s. Ok s.address.0) spot));
        room = length-set spots count spot ∙ f.room;
        few = omega (arith, slot_free);
        boundary = λ left. ⊎_elim (λ none. absurd (omega arith)) (λ full. full_part full) st.end;
        aligned = λ some left. ⊎_elim (λ none. absurd (omega arith)) (λ full. ap (λ i. i % l.grain) (sym at) ∙ whole_grain l.grain (a + done) step full) st.end;
        fresh = λ none. absurd (omega (arith, st.some));
        live = subst (LivePages (table_of l) m) (sym (noted_spot (λ s. s.page) spot)) (live_more (table_of l) m (page_list (take count spots)) spot.page f.live (live_here l x.lawful m (a + done) spot page place));
      }

  -- by what its gathering answers and leaves, over a memory that means the same
  module _ (now : Meaning) (same : now ≡ m) (r : Result Spot Fault)
      (is : result_map_both (λ _. tt) (λ f. f) r ≡ first_fault (viewed l now) (a + done) (length (part_of done step line))) (new : Tlb) (looked : new ≡ looked_at l now h (a + done)) where
    long : length (part_of done step line) ≡ step
    long = simp (length-take, length-drop) (omega (arith, f.long, st.room))

    said : (s : Result Spot Fault) → r ≡ s → first_fault (viewed l m) (a + done) step ≡ result_map_both (λ _. tt) (λ f. f) s
    said s e =
        sym (is ∙ ap (λ y. first_fault (viewed l y) (a + done) (length (part_of done step line))) same ∙ ap (first_fault (viewed l m) (a + done)) long)
        ∙ ap (result_map_both (λ _. tt) (λ f. f)) e

    look : new ≡ looked_at l m h (a + done)
    look = looked ∙ ap (λ y. looked_at l y h (a + done)) same

    pub gathered_refused : (e : Fault) → r ≡ Err e → Err e ≡ first_fault (viewed l m) a n
    gathered_refused e bad = sym (answered (Err e) (said (Err e) bad))

    pub lookups_refused : (e : Fault) → r ≡ Err e → new ≡ lookups_of l m a n before
    lookups_refused e bad = look ∙ sym (looks (Err e) (said (Err e) bad))

    pub gathered_more : (spot : Spot)
        → r ≡ Ok spot
        → (part : List ℕ)
        → part ≡ bytes (viewed l now) (a + done) (length (part_of done step line))
        → spot.page ≡ page_at l (a + done)
        → walked l now (a + done) ≡ Ok spot.address.0
        → Gathered l m before a n (done + step) new (put_mid done (done + step - done) line part) (count + 1) (set spots count spot)
    gathered_more spot good part brought page place = subst
        (λ t. Gathered l m before a n (done + step) t (put_mid done (done + step - done) line part) (count + 1) (set spots count spot))
        (sym look)
        (more_gathered part spot
        (said (Ok spot) good)
        (brought ∙ ap (λ y. bytes (viewed l y) (a + done) (length (part_of done step line))) same ∙ ap (bytes (viewed l m) (a + done)) long)
        page
        (sym (ap (λ y. walked l y (a + done)) same) ∙ place))

pub gathered_all : {l : Layout} {m : Meaning} {before : Tlb} {a n done : ℕ} {h : Tlb} {line : List ℕ} {count : ℕ} {spots : List Spot}
    → Gathered l m before a n done h line count spots
    → n ≤ done
    → (first_fault (viewed l m) a n ≡ Ok tt) × (line ≡ bytes (viewed l m) a n) × (h ≡ lookups_of l m a n before) × Spotted l m a n (take count spots)
unfolding first_fault lookups_from
gathered_all {l} {m} {before} {a} {n} {done} {h} {line} {count} {spots} f all =
    let same : done ≡ n = omega (arith, f.far) in
    let none : n - done ≡ 0 = omega arith in (
      f.read_answer ∙ ap (first_fault (viewed l m) (a + done)) none,
      sym (take_all done line (omega (arith, f.long))) ∙ f.front ∙ ap (bytes (viewed l m) a) same,
      sym (f.lookups ∙ ap (λ i. lookups_of l m (a + done) i h) none),
      record {
        pages = over_all l.grain (and_then (page_at l)) a n [] done (page_list (take count spots)) all f.pages;
        places = over_all l.grain (and_then (walked l m)) a n [] done (place_list (take count spots)) all f.places;
      },
    )
