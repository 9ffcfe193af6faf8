-- The examination of a table, entry by entry. Assumes nothing.
use Rattle.std.proofs.Common.{subst, true, false, is_err, ◌≡◌, ℕ, ◌+◌, ◌-◌, ◌<◌, ◌≤◌, List, Ok, Option, Result, sym, refl, ap, ◌∙◌, arith}
use Rattle.memory.specs.Meaning.{Meaning}
use Rattle.page_table.specs.declared.table.Table.{Table}
use Rattle.page_table.specs.Table.{whole_pages, frame_of}
use Rattle.opening.specs.declared.reason.OpeningRefusal.{OpeningRefusal}
use Rattle.opening.specs.Opening.{refused_by, check_entry, check_entries}
use Rattle.opening.specs.Board.{check_on_board, noted, Seen}
use Rattle.opening.proofs.Answers.{not_refused, entry_accepted, entry_decides, entries_done}
use Rattle.opening.proofs.Boards.{board_answer, seen_more}

-- all entries before k are accepted, and the answer is that of the rest
pub record Examined (t : Table) (m : Meaning) (k : ℕ) (board : List ℕ) (answer : Result (Unit {0}) OpeningRefusal) : Type 0 where
  pub passed : answer ≡ Ok tt
  pub whole : check_entries t m 0 t.entries ≡ check_entries t m k (t.entries - k)
  pub seen : Seen t m k board

module _ {t : Table} {m : Meaning} {k : ℕ} {board : List ℕ} {answer : Result (Unit {0}) OpeningRefusal} (x : Examined t m k board answer) where
  pub examined_at : (j : ℕ) → k ≡ j → Examined t m j board answer
  examined_at j same = subst (λ i. Examined t m i board answer) same x

  pub examined_all : t.entries ≤ k → answer ≡ check_entries t m 0 t.entries
  examined_all past = x.passed ∙ sym (x.whole ∙ entries_done t m k t.entries past)

  -- what the board answers is what the definition says of the entry, whose frame is f
  pub examined_answer : (n : Meaning) (p : ℕ) (f : Option ℕ) → n ≡ m → p ≡ whole_pages m → f ≡ frame_of t n k → check_on_board t p board f ≡ check_entry t m k
  examined_answer n p f same pages is =
      ap (λ q. check_on_board t q board f) pages ∙ board_answer t m k board x.seen f (sym (is ∙ ap (λ o. frame_of t o k) same))

  -- an entry that is refused decides the answer
  pub examined_refused : (r : Result (Unit {0}) OpeningRefusal) → k < t.entries → r ≡ refused_by k (check_entry t m k) → is_err r ≡ true → r ≡ check_entries t m 0 t.entries
  examined_refused r low is bad =
      is ∙ entry_decides t m k t.entries low (ap is_err (sym is) ∙ bad) ∙ sym x.whole

  -- and one that is accepted leaves it to those that follow
  pub examined_more : (r : Result (Unit {0}) OpeningRefusal) (f : Option ℕ) → k < t.entries → f ≡ frame_of t m k → r ≡ refused_by k (check_entry t m k) → is_err r ≡ false → Examined t m (k + 1) (noted board f) r
  examined_more r f low frame is good =
      let ok = not_refused k (check_entry t m k) (ap is_err (sym is) ∙ good) in
      record {
        passed = is ∙ ap (refused_by k) ok;
        whole = x.whole ∙ entry_accepted t m k t.entries low ok;
        seen = seen_more t m k board x.seen f (sym frame) (board_answer t m k board x.seen f (sym frame) ∙ ok);
      }

pub examined_none : {t : Table} {m : Meaning} {board : List ℕ} → Seen t m 0 board → Examined t m 0 board (Ok tt)
examined_none {t} {m} seen = record { passed = refl; whole = ap (check_entries t m 0) (omega arith); seen = seen }
