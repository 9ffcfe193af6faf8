-- Entries of the page table. Assumes nothing.
-- flag i b: whether the bit i of the byte b is set
-- entry_of bs: the entry that the four bytes bs say, most significant first
-- is_live e: whether the bytes of the page of e can be reached
-- live_frame e: the frame of a live entry, or why the page cannot be reached
-- SameButMarks d e: d and e are equal but for their marks, the referenced and the modified bit
-- set_flag i b: the byte b with its bit i set
-- top_after_read b, top_after_write b: what a read of its page, and a write, makes of the first byte of an entry
use Rattle.std.specs.Prelude.{◌≡◌, ℕ, ◌+◌, ◌%◌, ◌^◌, Bool, cond, not, ◌&&◌, ◌==◌, List, Ok, Err, Result, slice_index}
use Rattle.std.specs.Int.{bit_at}
use Rattle.units.specs.Word.{word_at}
use Rattle.memory.specs.declared.fault.Cause.{Cause}
use Rattle.memory.specs.declared.fault.Cause.TheVariants.{NoPage, PageOut}
use Rattle.page_table.specs.declared.entry.Entry.{Entry}

abbrev pub flag : ℕ → ℕ → Bool
flag i b = bit_at b i == 1

-- From the top bit on: valid, referenced, modified, out, and 28 bits of frame.
abbrev pub entry_of : List ℕ → Entry
entry_of bs = record {
  valid = flag 7 (slice_index bs 0);
  referenced = flag 6 (slice_index bs 0);
  modified = flag 5 (slice_index bs 0);
  out = flag 4 (slice_index bs 0);
  frame = word_at bs 0 % 2 ^ 28;
}

abbrev pub is_live : Entry → Bool
is_live e = e.valid && not e.out

-- an entry that is not valid says nothing of where its page is
abbrev pub live_frame : Entry → Result ℕ Cause
live_frame e = cond e.valid (cond e.out (Err PageOut) (Ok e.frame)) (Err NoPage)

pub record SameButMarks (d e : Entry) : Type 0 where
  pub valid : d.valid ≡ e.valid
  pub out : d.out ≡ e.out
  pub frame : d.frame ≡ e.frame

abbrev pub set_flag : ℕ → ℕ → ℕ
set_flag i b = cond (flag i b) b (b + 2 ^ i)

abbrev pub top_after_read : ℕ → ℕ
top_after_read b = set_flag 6 b

abbrev pub top_after_write : ℕ → ℕ
top_after_write b = set_flag 5 (set_flag 6 b)
