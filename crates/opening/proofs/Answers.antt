-- Answers taken apart: what accepts a frame, an entry and several entries. Assumes nothing.
use Rattle.std.proofs.Common.{◌≡◌, ℕ, zero, suc, ◌+◌, ◌-◌, ◌<◌, ◌≤◌, Bool, true, false, cond, leb, ltb, is_err, Ok, Err, Result, sym, refl, ap, ◌∙◌, ⊎_elim, arith}
use Rattle.std.specs.Result.{result_and}
use Rattle.std.proofs.lemmas.Bool.{leb-true, leb-false, ltb-true, le-leb, lt-leb, lt-ltb, and_from, and_parts, cases_eq, false_from_ne_true, false≢true}
use Rattle.memory.specs.Meaning.{Meaning}
use Rattle.page_table.specs.declared.table.Table.{Table}
use Rattle.page_table.specs.Table.{InTable, table_pages}
use Rattle.opening.specs.declared.reason.Reason.{Reason}
use Rattle.opening.specs.declared.reason.Reason.TheVariants.{FrameOutside, FrameInTable, FrameTaken}
use Rattle.opening.specs.declared.reason.OpeningRefusal.{OpeningRefusal}
use Rattle.opening.specs.Opening.{in_table, check_frame, check_entry, refused_by, check_entries}

pub is_in_table : (t : Table) (p : ℕ) → in_table t p ≡ true → InTable t p
is_in_table t p test =
    let both = and_parts (leb t.page p) (ltb p (t.page + table_pages t)) test in
    record { from = leb-true t.page p both.0; below = ltb-true p (t.page + table_pages t) both.1 }

pub not_in_table : (t : Table) (p : ℕ) → (InTable t p → ⊥) → in_table t p ≡ false
not_in_table t p never = false_from_ne_true (in_table t p) (λ test. never (is_in_table t p test))

in_table_is : (t : Table) (p : ℕ) → InTable t p → in_table t p ≡ true
in_table_is t p is = and_from _ _ (le-leb t.page p is.from) (lt-ltb p (t.page + table_pages t) is.below)

-- a frame that is accepted
pub record Accepted (t : Table) (p f : ℕ) (before : Bool) : Type 0 where
  pub below : f < p
  pub outside : InTable t f → ⊥
  pub fresh : before ≡ false

all_passed : (a b c : Bool) → cond a (Err FrameOutside) (cond b (Err FrameInTable) (cond c (Err FrameTaken) (Ok (tt {0})))) ≡ Ok tt → (a ≡ false) × (b ≡ false) × (c ≡ false)
all_passed true b c e = absurd cc
all_passed false true c e = absurd cc
all_passed false false true e = absurd cc
all_passed false false false e = (refl, refl, refl)

pub frame_accepted : (t : Table) (p f : ℕ) (before : Bool) → check_frame t p f before ≡ Ok tt → Accepted t p f before
frame_accepted t p f before ok =
    let tests = all_passed (leb p f) (in_table t f) before ok in
    record {
      below = leb-false p f tests.0;
      outside = λ is. false≢true (sym tests.1 ∙ in_table_is t f is);
      fresh = tests.2;
    }

pub accept_frame : (t : Table) (p f : ℕ) (before : Bool) → Accepted t p f before → check_frame t p f before ≡ Ok tt
accept_frame t p f before a = rw (lt-leb p f a.below, not_in_table t f a.outside, a.fresh) refl

-- an answer of which both parts accept
pub both_accept : (k : ℕ) (r : Result (Unit {0}) Reason) (later : Result (Unit {0}) OpeningRefusal) → result_and (refused_by k r) later ≡ Ok tt → (r ≡ Ok tt) × (later ≡ Ok tt)
both_accept k (Ok u) later e = (refl, e)
both_accept k (Err reason) later e = absurd cc

first_decides : (r later : Result (Unit {0}) OpeningRefusal) → is_err r ≡ true → result_and r later ≡ r
first_decides (Ok u) later bad = absurd (false≢true bad)
first_decides (Err f) later bad = refl

-- an answer that is no refusal
pub not_refused : (k : ℕ) (r : Result (Unit {0}) Reason) → is_err (refused_by k r) ≡ false → r ≡ Ok tt
not_refused k (Ok u) good = refl
not_refused k (Err reason) good = absurd (false≢true (sym good))

module _ (t : Table) (m : Meaning) where
  pub entries_accepted : (k n : ℕ) → check_entries t m k n ≡ Ok tt → (i : ℕ) → k ≤ i → i < k + n → check_entry t m i ≡ Ok tt
  unfolding check_entries
  entries_accepted k zero e i low high = absurd (omega arith)
  entries_accepted k (suc n) e i low high =
      let parts = both_accept k (check_entry t m k) (check_entries t m (suc k) n) e in
      ⊎_elim
      (λ here. ap (check_entry t m) here ∙ parts.0)
      (λ later. entries_accepted (suc k) n parts.1 i (omega arith) (omega arith))
      (cases_eq i k)

  pub accept_entries : (k n : ℕ) → ((i : ℕ) → k ≤ i → i < k + n → check_entry t m i ≡ Ok tt) → check_entries t m k n ≡ Ok tt
  unfolding check_entries
  accept_entries k zero all = refl
  accept_entries k (suc n) all =
      ap (λ r. result_and (refused_by k r) (check_entries t m (suc k) n)) (all k (omega arith) (omega arith))
      ∙ accept_entries (suc k) n (λ i low high. all i (omega arith) (omega arith))

  -- one entry before the rest of the n
  step : (k n : ℕ) → k < n → check_entries t m k (n - k) ≡ result_and (refused_by k (check_entry t m k)) (check_entries t m (suc k) (n - suc k))
  unfolding check_entries
  step k n low = let more : n - k ≡ suc (n - suc k) = omega arith in ap (check_entries t m k) more

  pub entry_accepted : (k n : ℕ) → k < n → check_entry t m k ≡ Ok tt → check_entries t m k (n - k) ≡ check_entries t m (k + 1) (n - (k + 1))
  entry_accepted k n low ok =
      step k n low
      ∙ ap (λ r. result_and (refused_by k r) (check_entries t m (suc k) (n - suc k))) ok
      ∙ ap (λ j. check_entries t m j (n - j)) (omega arith)

  pub entry_decides : (k n : ℕ) → k < n → is_err (refused_by k (check_entry t m k)) ≡ true → refused_by k (check_entry t m k) ≡ check_entries t m k (n - k)
  entry_decides k n low bad = sym (step k n low ∙ first_decides (refused_by k (check_entry t m k)) (check_entries t m (suc k) (n - suc k)) bad)

  pub entries_done : (k n : ℕ) → n ≤ k → check_entries t m k (n - k) ≡ Ok tt
  unfolding check_entries
  entries_done k n past = let none : n - k ≡ 0 = omega arith in ap (check_entries t m k) none
