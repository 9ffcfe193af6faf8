-- A walk reads of an entry only its class. Assumes nothing.
use Rattle.std.proofs.Common.{◌≡◌, ℕ, ◌/◌, Some, None, Ok, Err, Option, Result, sym, refl, ap, ◌∙◌, arith}
use Rattle.memory.specs.declared.fault.Fault.{Fault}
use Rattle.memory.specs.Meaning.{Meaning}
use Rattle.mapping.specs.Rules.{Layout}
use Rattle.mapping.specs.Laws.{Lawful}
use Rattle.page_table.specs.declared.entry.Entry.{Entry}
use Rattle.page_table.specs.Entry.{live_frame, SameButMarks}
use Rattle.page_table.specs.Table.{table_of}
use Rattle.page_table.specs.Walk.{through, walked_from}
use Rattle.page_table.specs.Class.{SameRead, SameTable, MarksUnread}

same_frames : (d e : Entry) → SameButMarks d e → live_frame d ≡ live_frame e
same_frames d e same = rw (same.valid, same.out, same.frame) refl

same_through : (s v : ℕ) (r q : Result Entry Fault) → SameRead r q → through s v r ≡ through s v q
same_through s v (Ok d) (Ok e) same = rw (same_frames d e same) refl
same_through s v (Ok d) (Err g) same = absurd same
same_through s v (Err f) (Ok e) same = absurd same
same_through s v (Err f) (Err g) same = ap Err same

module _ (l : Layout) (m n : Meaning) (laws : Lawful l) (same : SameTable (table_of l) m n) where
  -- by the place of the window address
  same_walked : (s : ℕ) (place : Option ℕ) → l.place s ≡ place → walked_from (table_of l) m s place ≡ walked_from (table_of l) n s place
  same_walked s None e = refl
  same_walked s (Some v) e =
      let inside = laws.within s v e in
      same_through s v _ _ (same (v / 4096) (omega arith))

pub marks_unread : MarksUnread
marks_unread = record {
  same = λ e. record { valid = refl; out = refl; frame = refl };
  back = λ d e p. record { valid = sym p.valid; out = sym p.out; frame = sym p.frame };
  more = λ d e f p q. record { valid = p.valid ∙ q.valid; out = p.out ∙ q.out; frame = p.frame ∙ q.frame };
  frames = same_frames;
  walks = λ l m n laws same s. same_walked l m n laws same s (l.place s) refl;
}
