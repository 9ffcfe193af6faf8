-- A window opens exactly over a good table, with a board that is long enough. Assumes nothing.
use Rattle.std.proofs.Common.{◌≡◌, ℕ, zero, suc, ◌+◌, ◌-◌, ◌<◌, Bool, true, false, cond, ltb, is_ok, Some, None, Ok, Err, Option, Result, sym, refl, ap, ◌∙◌, subst, List, replicate, ⊎_elim, arith}
use Rattle.std.specs.Prelude.{Decides}
use Rattle.std.specs.Result.{result_and}
use Rattle.std.proofs.lemmas.Bool.{cases_lt, cases_eq, or_parts, or_cases, eqb-true, eq-eqb, ltb-false, le-ltb, false_from_ne_true, false≢true}
use Rattle.memory.specs.Meaning.{Meaning}
use Rattle.page_table.specs.declared.table.Table.{Table}
use Rattle.page_table.specs.Table.{table_pages, whole_pages, frame_of, Live, GoodTable}
use Rattle.opening.specs.declared.reason.Reason.{Reason}
use Rattle.opening.specs.declared.reason.Reason.TheVariants.{ShortBoard, TableOutside}
use Rattle.opening.specs.declared.reason.OpeningRefusal.{OpeningRefusal}
use Rattle.opening.specs.Opening.{has_frame, taken, check_live, check_entry, refused_by, check_entries, table_outside, check_sizes, check_opening, Openable}
use Rattle.opening.specs.Board.{Seen}
use Rattle.opening.proofs.Boards.{seen_none}
use Rattle.opening.proofs.Answers.{Accepted, frame_accepted, accept_frame, entries_accepted, accept_entries, both_accept}

module _ (t : Table) (m : Meaning) where
  has_it : (f : ℕ) (o : Option ℕ) → has_frame f o ≡ true → o ≡ Some f
  has_it f None e = absurd (false≢true e)
  has_it f (Some g) e = ap Some (eqb-true g f e)

  -- a frame that is taken, by which entry
  taken_by : (k f : ℕ) → taken t m k f ≡ true → (j : ℕ) × (j < k) × (frame_of t m j ≡ Some f)
  unfolding taken
  taken_by zero f e = absurd (false≢true e)
  taken_by (suc k) f e =
      ⊎_elim
      (λ here. (k, omega arith, has_it f (frame_of t m k) here))
      (λ before. let b = taken_by k f before in (b.0, omega (arith, b.1), b.2))
      (or_cases (has_frame f (frame_of t m k)) (taken t m k f) e)

  not_taken : (k f : ℕ) → taken t m k f ≡ false → (j : ℕ) → j < k → frame_of t m j ≡ Some f → ⊥
  unfolding taken
  not_taken zero f e j low is = omega arith
  not_taken (suc k) f e j low is =
      let parts = or_parts (has_frame f (frame_of t m k)) (taken t m k f) e in
      ⊎_elim
      (λ here. false≢true (sym parts.0 ∙ ap (has_frame f) (ap (frame_of t m) (sym here) ∙ is) ∙ eq-eqb f f refl))
      (λ before. not_taken k f parts.1 j (omega arith) is)
      (cases_eq j k)

  live_accepted : (k f : ℕ) → frame_of t m k ≡ Some f → check_entry t m k ≡ Ok tt → Accepted t (whole_pages m) f (taken t m k f)
  unfolding check_entry
  live_accepted k f is ok = frame_accepted t (whole_pages m) f (taken t m k f) (ap (check_live t m k) (sym is) ∙ ok)

  accept_by : (k : ℕ) (o : Option ℕ) → ((f : ℕ) → o ≡ Some f → Accepted t (whole_pages m) f (taken t m k f)) → check_live t m k o ≡ Ok tt
  accept_by k None good = refl
  accept_by k (Some f) good = accept_frame t (whole_pages m) f (taken t m k f) (good f refl)

  good_of : table_outside t (whole_pages m) ≡ false → check_entries t m 0 t.entries ≡ Ok tt → GoodTable t m
  good_of fits ok =
      let room = ltb-false (whole_pages m - t.page) (table_pages t) fits in
      let each = λ (k f : ℕ) (live : Live t m k f). live_accepted k f live.frame (entries_accepted t m 0 t.entries ok k (omega arith) (omega (arith, live.low))) in
      record {
        table = λ p is. omega (arith, is.from, is.below);
        below = λ k f live. (each k f live).below;
        outside = λ k f live. (each k f live).outside;
        apart = λ j k f one two.
            ⊎_elim
            (λ same. same)
            (λ other. absurd (⊎_elim
            (λ low. not_taken k f (each k f two).fresh j low one.frame)
            (λ high. not_taken j f (each j f one).fresh k (omega (arith, other)) two.frame)
            (cases_lt j k)))
            (cases_eq j k);
      }

  accepts : GoodTable t m → (k : ℕ) → k < t.entries → check_entry t m k ≡ Ok tt
  unfolding check_entry
  accepts good k low =
      accept_by k (frame_of t m k)
      (λ f is.
      let live : Live t m k f = record { low = low; frame = is } in
      record {
        below = good.below k f live;
        outside = good.outside k f live;
        fresh = false_from_ne_true (taken t m k f) (λ test.
            let b = taken_by k f test in
            let same = good.apart b.0 k f (record { low = omega (arith, b.1); frame = b.2 }) live in
            omega (arith, b.1));
      })

  -- the last page of a table that has one
  room_for : GoodTable t m → table_outside t (whole_pages m) ≡ false
  room_for good =
      le-ltb (whole_pages m - t.page) (table_pages t)
      (⊎_elim
      (λ some. let last = good.table (t.page + table_pages t - 1) (record { from = omega arith; below = omega arith }) in omega arith)
      (λ none. omega arith)
      (cases_lt 0 (table_pages t)))

accepted : (r : Result (Unit {0}) OpeningRefusal) → is_ok r ≡ true → r ≡ Ok tt
accepted (Ok u) e = refl
accepted (Err f) e = absurd (false≢true e)

sizes_passed : (a b : Bool) → cond a (Err ShortBoard) (cond b (Err TableOutside) (Ok (tt {0}))) ≡ Ok tt → (a ≡ false) × (b ≡ false)
sizes_passed true b e = absurd cc
sizes_passed false true e = absurd cc
sizes_passed false false e = (refl, refl)

module _ (t : Table) (m : Meaning) (b : ℕ) where
  pub opening_refused : (reason : Reason) → check_sizes t (whole_pages m) b ≡ Err reason → check_opening t m b ≡ Err (record { reason = reason; entry = 0 })
  unfolding check_opening
  opening_refused reason e = ap (λ r. result_and (refused_by 0 r) (check_entries t m 0 t.entries)) e

  pub opening_by_entries : check_sizes t (whole_pages m) b ≡ Ok tt → check_opening t m b ≡ check_entries t m 0 t.entries
  unfolding check_opening
  opening_by_entries e = ap (λ r. result_and (refused_by 0 r) (check_entries t m 0 t.entries)) e

  -- a board of zeros that is long enough shows that nothing was examined
  pub seen_first : (board : List ℕ) → board ≡ replicate b 0 → check_sizes t (whole_pages m) b ≡ Ok tt → Seen t m 0 board
  seen_first board clear e =
      let sizes = sizes_passed (ltb b (whole_pages m)) (table_outside t (whole_pages m)) e in
      seen_none t m b board clear (ltb-false b (whole_pages m) sizes.0)

opens : (t : Table) (m : Meaning) (b : ℕ) → Decides (is_ok (check_opening t m b)) (Openable t m b)
unfolding check_opening
opens t m b = (
  λ ok.
      let parts = both_accept 0 (check_sizes t (whole_pages m) b) (check_entries t m 0 t.entries) (accepted _ ok) in
      let sizes = sizes_passed (ltb b (whole_pages m)) (table_outside t (whole_pages m)) parts.0 in
      record { board = ltb-false b (whole_pages m) sizes.0; table = good_of t m sizes.1 parts.1 },
  λ openable.
      rw (le-ltb b (whole_pages m) openable.board, room_for t m openable.table, accept_entries t m 0 t.entries (λ i low high. accepts t m openable.table i (omega arith))) refl,
)

pub opens_by : (t : Table) (m : Meaning) (b : ℕ) (r : Result (Unit {0}) OpeningRefusal) → r ≡ check_opening t m b → Decides (is_ok r) (Openable t m b)
opens_by t m b r e = subst (λ x. Decides (is_ok x) (Openable t m b)) (sym e) (opens t m b)
