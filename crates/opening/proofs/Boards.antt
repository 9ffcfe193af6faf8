-- The board shows the frames of the entries that were examined. Assumes nothing.
use Rattle.std.proofs.Common.{◌≡◌, ℕ, suc, ◌+◌, ◌<◌, ◌≤◌, Bool, true, false, cond, not, ◌||◌, eqb, List, length, replicate, get_or, set, Some, None, Ok, Option, sym, refl, ap, ◌∙◌, subst, ⊎_elim, arith}
use Rattle.std.proofs.lemmas.Bool.{cases_eq, cases_lt, eq-eqb, ne_eqb, or_left, cond-true, le-leb}
use Rattle.std.proofs.lemmas.List.{length-replicate, get_or-replicate, length-set, get_or-set_same, get_or-set_other}
use Rattle.memory.specs.Meaning.{Meaning}
use Rattle.page_table.specs.declared.table.Table.{Table}
use Rattle.page_table.specs.Table.{whole_pages, frame_of}
use Rattle.opening.specs.Opening.{has_frame, taken, check_frame, check_live, check_entry}
use Rattle.opening.specs.Board.{check_on_board, noted, Seen}
use Rattle.opening.proofs.Answers.{frame_accepted}

pub seen_none : (t : Table) (m : Meaning) (n : ℕ) (board : List ℕ) → board ≡ replicate n 0 → whole_pages m ≤ n → Seen t m 0 board
unfolding taken
seen_none t m n board clear long = record {
  long = omega (arith, ap length clear, length-replicate {A = ℕ} n 0);
  frames = λ f low. ap (λ b. get_or b f 0) clear ∙ get_or-replicate n f 0 0 (omega arith);
}

pub length_noted : (board : List ℕ) (f : Option ℕ) → length (noted board f) ≡ length board
length_noted board None = refl
length_noted board (Some f) = length-set board f 1

module _ (t : Table) (m : Meaning) (k : ℕ) (board : List ℕ) (seen : Seen t m k board) where
  shown_taken : (b : Bool) (x : ℕ) → x ≡ cond b 1 0 → not (eqb x 0) ≡ b
  shown_taken true x e = ap (λ y. not (eqb y 0)) e
  shown_taken false x e = ap (λ y. not (eqb y 0)) e

  -- the board tells what the definition says
  on_board : (f : Option ℕ) → check_on_board t (whole_pages m) board f ≡ check_live t m k f
  on_board None = refl
  on_board (Some f) =
      ⊎_elim
      (λ low. ap (check_frame t (whole_pages m) f) (shown_taken (taken t m k f) (get_or board f 0) (seen.frames f low)))
      (λ high. rw (le-leb (whole_pages m) f high) refl)
      (cases_lt f (whole_pages m))

  pub board_answer : (f : Option ℕ) → frame_of t m k ≡ f → check_on_board t (whole_pages m) board f ≡ check_entry t m k
  unfolding check_entry
  board_answer f e = on_board f ∙ ap (check_live t m k) (sym e)

  more_taken : (f : Option ℕ) (g : ℕ) → frame_of t m k ≡ f → taken t m (suc k) g ≡ (has_frame g f || taken t m k g)
  unfolding taken
  more_taken f g e = ap (λ o. has_frame g o || taken t m k g) e

  noted_shown : (f : Option ℕ) → check_live t m k f ≡ Ok tt → (g : ℕ) → g < whole_pages m → get_or (noted board f) g 0 ≡ cond (has_frame g f || taken t m k g) 1 0
  noted_shown None ok g low = seen.frames g low
  noted_shown (Some f) ok g low =
      let a = frame_accepted t (whole_pages m) f (taken t m k f) ok in
      let long = seen.long in
      let below = a.below in
      ⊎_elim
      (λ same.
      ap (λ i. get_or (set board f 1) i 0) same
      ∙ get_or-set_same board f 1 0 (omega arith)
      ∙ sym (cond-true _ 1 0 (or_left (eqb f g) (taken t m k g) (eq-eqb f g (sym same)))))
      (λ other.
      get_or-set_other board f g 1 0 other
      ∙ seen.frames g low
      ∙ ap (λ b. cond (b || taken t m k g) 1 0) (sym (ne_eqb f g (λ e. other (sym e)))))
      (cases_eq g f)

  pub seen_more : (f : Option ℕ) → frame_of t m k ≡ f → check_on_board t (whole_pages m) board f ≡ Ok tt → Seen t m (k + 1) (noted board f)
  seen_more f e ok =
      let next : suc k ≡ k + 1 = omega arith in
      record {
        long = subst (λ n. whole_pages m ≤ n) (sym (length_noted board f)) seen.long;
        frames = λ g low.
            noted_shown f (sym (on_board f) ∙ ok) g low
            ∙ ap (λ b. cond b 1 0) (sym (more_taken f g e) ∙ ap (λ j. taken t m j g) next);
      }
