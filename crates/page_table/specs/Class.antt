-- Entries that are equal but for their marks are one class, and a walk reads only the class. Assumes nothing.
-- SameRead r q: two entries that were read are of one class, or their reading was refused by the same fault
-- SameTable t m n: so are all entries of the table t, in the memory m and in n
-- MarksUnread: the class is one of an equivalence, and cells stand where they stood in tables that are the same but for marks
use Rattle.std.specs.Prelude.{◌≡◌, ℕ, ◌<◌, Ok, Err, Result}
use Rattle.memory.specs.declared.fault.Fault.{Fault}
use Rattle.memory.specs.Meaning.{Meaning}
use Rattle.mapping.specs.Rules.{Layout}
use Rattle.mapping.specs.Laws.{Lawful}
use Rattle.page_table.specs.declared.entry.Entry.{Entry}
use Rattle.page_table.specs.declared.table.Table.{Table}
use Rattle.page_table.specs.Entry.{live_frame, SameButMarks}
use Rattle.page_table.specs.Table.{table_of, entry_address, entry_read}
use Rattle.page_table.specs.Walk.{walked}

abbrev pub SameRead : Result Entry Fault → Result Entry Fault → Type 0
SameRead (Ok d) (Ok e) = SameButMarks d e
SameRead (Ok d) (Err g) = ⊥
SameRead (Err f) (Ok e) = ⊥
SameRead (Err f) (Err g) = f ≡ g

abbrev pub SameTable : Table → Meaning → Meaning → Type 0
SameTable t m n = (k : ℕ) → k < t.entries → SameRead (entry_read m (entry_address t k)) (entry_read n (entry_address t k))

pub record MarksUnread : Type 0 where
  pub same : (e : Entry) → SameButMarks e e
  pub back : (d e : Entry) → SameButMarks d e → SameButMarks e d
  pub more : (d e f : Entry) → SameButMarks d e → SameButMarks e f → SameButMarks d f
  pub frames : (d e : Entry) → SameButMarks d e → live_frame d ≡ live_frame e
  pub walks : (l : Layout) (m n : Meaning) → Lawful l → SameTable (table_of l) m n → (s : ℕ) → walked l m s ≡ walked l n s
