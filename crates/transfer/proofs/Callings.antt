-- What a call on a run answers and leaves, by what was gathered, marked and scattered. Assumes nothing.
use Rattle.std.proofs.Common.{◌≡◌, ℕ, ◌-◌, ◌≤◌, true, cond, List, [], length, map, take, is_ok, IfOk, Ok, Err, Result, refl, sym, ap, ◌∙◌, subst, arith}
use native.Mathlib.Nat.{sub-zero}
use mathlib.Core.Path.{fun_ext}
use Rattle.std.specs.Result.{result_map_both}
use Rattle.std.proofs.lemmas.List.{length-take}
use Rattle.memory.specs.declared.fault.Fault.{Fault}
use Rattle.memory.specs.Meaning.{Meaning}
use Rattle.memory.specs.Run.{check_run}
use Rattle.memory.specs.Calls.{first_fault, read_answer, write_answer, bytes, delivered, stored, written}
use Rattle.memory.proofs.Runs.{run_taken}
use Rattle.memory.proofs.Calls.{answer_inside, writes_as_reads, written_accepted, written_refused}
use Rattle.mapping.specs.Rules.{Layout}
use Rattle.page_table.specs.declared.tlb.Tlb.{Tlb}
use Rattle.page_table.specs.Table.{table_of}
use Rattle.page_table.specs.Walk.{walked, viewed, windowed}
use Rattle.walk.specs.declared.spot.Spot.{Spot}
use Rattle.memory.specs.declared.access.Access.{Access}
use Rattle.memory.specs.declared.access.Access.TheVariants.{Read, Write}
use Rattle.transfer.specs.Parts.{over_parts, and_then, Spotted}
use Rattle.transfer.specs.Lookups.{lookups_of}
use Rattle.transfer.specs.Scatter.{marked_pages, refreshed_pages, scattered, ScatteredAll}
use Rattle.transfer.specs.Call.{marked_run, below_after_read, below_after_write, tlb_after}

-- a refused call changes no cell below
module _ (l : Layout) (m : Meaning) (a : ℕ) where
  pub read_unchanged : (n : ℕ) (f : Fault) → read_answer (windowed l m) a n ≡ Err f → m ≡ below_after_read l m a n
  unfolding below_after_read
  read_unchanged n f refused = rw refused refl

  pub write_unchanged : (bs : List ℕ) (f : Fault) → write_answer (windowed l m) a (length bs) ≡ Err f → m ≡ below_after_write l m a bs
  unfolding below_after_write
  write_unchanged bs f refused = rw refused refl

-- what the gathering of the run of n bytes at a gives: it answers r, leaves the memory now and the TLB new, and brings line and spots
pub record GatheredRun (l : Layout) (m : Meaning) (a n : ℕ) (h : Tlb) (r : Result ℕ Fault) (now : Meaning) (new : Tlb) (line : List ℕ) (spots : List Spot) : Type 0 where
  pub taken : check_run l.image_size a n ≡ Ok tt
  pub answer : result_map_both (λ _. tt) (λ f. f) r ≡ read_answer (windowed l m) a n
  pub brought : IfOk r (λ _. line ≡ bytes (viewed l m) a n)
  pub spotted : IfOk r (λ count. Spotted l m a n (take count spots))
  pub looked : new ≡ lookups_of l m a n h
  pub same : now ≡ m

-- a gathering into the first n bytes of a line
pub gathered_run : {l : Layout} {m : Meaning} {a n : ℕ} {h : Tlb} {r : Result ℕ Fault} {now : Meaning} {new : Tlb} {line : List ℕ} {spots : List Spot} (blank : List ℕ)
    → check_run l.image_size a n ≡ Ok tt
    → length blank ≡ 128
    → result_map_both (λ _. tt) (λ f. f) r ≡ first_fault (viewed l m) a (length (take (n - 0) blank))
    → IfOk r (λ _. line ≡ bytes (viewed l m) a (length (take (n - 0) blank)))
    → IfOk r (λ count. Spotted l m a (length (take (n - 0) blank)) (take count spots))
    → new ≡ lookups_of l m a (length (take (n - 0) blank)) h
    → now ≡ m
    → GatheredRun l m a n h r now new line spots
gathered_run {l} {m} {a} {n} {h} {r} {now} {new} {line} {spots} blank taken room answer brought spotted looked same =
    let fits : n ≤ 128 = let t = run_taken l.image_size a n taken in omega (arith, t.line) in
    let long : length (take (n - 0) blank) ≡ n = simp length-take (omega (arith, fits, room)) in
    record {
      taken = taken;
      answer = answer ∙ ap (first_fault (viewed l m) a) long ∙ sym (answer_inside (windowed l m) a n taken);
      brought = subst (λ k. IfOk r (λ _. line ≡ bytes (viewed l m) a k)) long brought;
      spotted = subst (λ k. IfOk r (λ count. Spotted l m a k (take count spots))) long spotted;
      looked = looked ∙ ap (λ k. lookups_of l m a k h) long;
      same = same;
    }

-- what was marked, by the pages of the spots
abbrev pub pages_in : ℕ → List Spot → List ℕ
pages_in count spots = map (λ spot. spot.page) (take (count - 0) spots)

module _ {l : Layout} {m : Meaning} {a n : ℕ} {h : Tlb} {r : Result ℕ Fault} {now : Meaning} {new : Tlb} {line : List ℕ} {spots : List Spot} (x : GatheredRun l m a n h r now new line spots) where
  pub refused : (f : Fault) → r ≡ Err f → read_answer (windowed l m) a n ≡ Err f
  refused f bad = sym x.answer ∙ ap (result_map_both (λ _. tt) (λ f. f)) bad

  pub write_refused : (f : Fault) → r ≡ Err f → write_answer (windowed l m) a n ≡ Err f
  write_refused f bad = writes_as_reads (windowed l m) a n ∙ refused f bad

  pub tlb_refused : (access : Access) (f : Fault) → r ≡ Err f → new ≡ tlb_after l m access a n h
  unfolding tlb_after
  tlb_refused access f bad = rw (x.taken, refused f bad) x.looked

  pub below_read_refused : (f : Fault) → r ≡ Err f → now ≡ below_after_read l m a n
  below_read_refused f bad = x.same ∙ read_unchanged l m a n f (refused f bad)

  module _ (count : ℕ) (good : r ≡ Ok count) where
    pub accepted : read_answer (windowed l m) a n ≡ Ok tt
    accepted = sym x.answer ∙ ap (result_map_both (λ _. tt) (λ f. f)) good

    pub write_accepted : write_answer (windowed l m) a n ≡ Ok tt
    write_accepted = writes_as_reads (windowed l m) a n ∙ accepted

    all_spotted : Spotted l m a n (take (count - 0) spots)
    all_spotted = subst (λ k. Spotted l m a n (take k spots)) (sym (sub-zero count)) (subst (λ r. IfOk r (λ count. Spotted l m a n (take count spots))) good x.spotted)

    pub tlb_accepted : (access : Access) (after : Tlb) → after ≡ refreshed_pages access (pages_in count spots) new → after ≡ tlb_after l m access a n h
    unfolding tlb_after
    tlb_accepted access after is =
        rw (x.taken, accepted) (is ∙ ap (refreshed_pages access (pages_in count spots)) x.looked ∙ ap (λ ks. refreshed_pages access ks (lookups_of l m a n h)) all_spotted.pages)

    -- the memory after the marks
    marks : (access : Access) (after : Meaning) → after ≡ marked_pages (table_of l) access (pages_in count spots) now → after ≡ marked_run l access a n m
    marks access after is =
        is ∙ ap (marked_pages (table_of l) access (pages_in count spots)) x.same ∙ ap (λ ks. marked_pages (table_of l) access ks m) all_spotted.pages

    pub below_read_accepted : (after : Meaning) → after ≡ marked_pages (table_of l) Read (pages_in count spots) now → after ≡ below_after_read l m a n
    unfolding below_after_read
    below_read_accepted after is = rw accepted (marks Read after is)

    -- which leave where each part stands
    pub spotted_after : (after : Meaning) → ((s : ℕ) → walked l after s ≡ walked l now s) → Spotted l after a n (take (count - 0) spots)
    spotted_after after walks = record {
      pages = all_spotted.pages;
      places = all_spotted.places ∙ ap (λ f. over_parts l.grain (and_then f) true a n []) (sym (fun_ext (λ s. walks s ∙ ap (λ y. walked l y s) x.same)));
    }

-- what a buffer holds
pub buffer_after : {l : Layout} {m : Meaning} {a : ℕ} {h : Tlb} {r : Result ℕ Fault} {now : Meaning} {new : Tlb} {line : List ℕ} {spots : List Spot} (b : List ℕ)
    → GatheredRun l m a (length b) h r now new line spots
    → (c : List ℕ) → c ≡ cond (is_ok r) line b → c ≡ delivered (windowed l m) a b
buffer_after {l} {m} {a} {h} {r} {now} {new} {line} {spots} b x c is = by r refl where
  by : (s : Result ℕ Fault) → r ≡ s → c ≡ delivered (windowed l m) a b
  by (Ok count) e = is ∙ rw (e, accepted x count e) (subst (λ s. IfOk s (λ _. line ≡ bytes (viewed l m) a (length b))) e x.brought)
  by (Err f) e = is ∙ rw (e, refused x f e) refl

-- what a write leaves below, and of the window
module _ {l : Layout} {m : Meaning} {a : ℕ} {h : Tlb} {r : Result ℕ Fault} {now : Meaning} {new : Tlb} {line : List ℕ} {spots : List Spot}
    (bs : List ℕ) (x : GatheredRun l m a (length bs) h r now new line spots) where
  pub below_write_refused : (f : Fault) → r ≡ Err f → now ≡ below_after_write l m a bs
  below_write_refused f bad = x.same ∙ write_unchanged l m a bs f (write_refused x f bad)

  pub window_refused : (f : Fault) → r ≡ Err f → windowed l now ≡ written (windowed l m) a bs
  window_refused f bad = ap (windowed l) x.same ∙ sym (written_refused (windowed l m) a bs f (write_refused x f bad))

  module _ (count : ℕ) (good : r ≡ Ok count) (marked after : Meaning) (all : ScatteredAll l marked a bs after) where
    pub below_write_accepted : marked ≡ marked_pages (table_of l) Write (pages_in count spots) now → after ≡ below_after_write l m a bs
    unfolding below_after_write
    below_write_accepted is = rw (write_accepted x count good) (all.below ∙ ap (λ y. scattered l y a bs y) (marks x count good Write marked is))

    pub window_accepted : windowed l marked ≡ windowed l now → windowed l after ≡ written (windowed l m) a bs
    window_accepted stands =
        all.window ∙ ap (λ w. stored w a bs) (stands ∙ ap (windowed l) x.same) ∙ sym (written_accepted (windowed l m) a bs (write_accepted x count good))
