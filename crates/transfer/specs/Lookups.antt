-- The lookups of a run. Assumes nothing.
-- met l m first s h: the TLB h after the byte s, which is one lookup where it begins a part and has a place
-- lookups_from l m first s n h: the TLB h after the lookups of the n bytes from s on, up to and with that of the first faulted one
-- lookups_of l m a n h: the same of the run of n bytes at a
-- parts_from l m first s n: how many parts with a place begin among the n bytes from s on, up to and with the first faulted one
-- part_met l first s: one, if a part begins with the byte s and that has a place, and else none
-- lookups_run l m a n: how many lookups a call on n bytes at a makes
-- lookups_in l m c: how many lookups the call c makes
use Rattle.std.specs.Prelude.{ℕ, zero, suc, ◌+◌, ◌%◌, is_ok, is_some, length, Bool, true, false, cond, ◌||◌, ◌==◌}
use Rattle.memory.specs.Meaning.{Cell, byte, fault, Meaning}
use Rattle.memory.specs.Run.{check_run}
use Rattle.memory.specs.Reach.{Call, reading, writing}
use Rattle.mapping.specs.Rules.{Layout}
use Rattle.page_table.specs.declared.tlb.Tlb.{Tlb}
use Rattle.page_table.specs.Walk.{viewed}
use Rattle.walk.specs.Lookup.{looked_at}

abbrev pub is_byte : Cell → Bool
is_byte (byte b) = true
is_byte (fault f) = false

abbrev pub met : Layout → Meaning → Bool → ℕ → Tlb → Tlb
met l m first s h = cond (first || s % l.grain == 0) (looked_at l m h s) h

unfoldable pub lookups_from : Layout → Meaning → Bool → ℕ → ℕ → Tlb → Tlb
lookups_from l m first s zero h = h
lookups_from l m first s (suc n) h =
    cond (is_byte (viewed l m s)) (lookups_from l m false (suc s) n (met l m first s h)) (met l m first s h)

abbrev pub lookups_of : Layout → Meaning → ℕ → ℕ → Tlb → Tlb
lookups_of l m a n h = lookups_from l m true a n h

abbrev pub part_met : Layout → Bool → ℕ → ℕ
part_met l first s = cond (first || s % l.grain == 0) (cond (is_some (l.place s)) 1 0) 0

unfoldable pub parts_from : Layout → Meaning → Bool → ℕ → ℕ → ℕ
parts_from l m first s zero = 0
parts_from l m first s (suc n) =
    cond (is_byte (viewed l m s)) (part_met l first s + parts_from l m false (suc s) n) (part_met l first s)

abbrev pub lookups_run : Layout → Meaning → ℕ → ℕ → ℕ
lookups_run l m a n = cond (is_ok (check_run l.image_size a n)) (parts_from l m true a n) 0

abbrev pub lookups_in : Layout → Meaning → Call → ℕ
lookups_in l m (reading a b) = lookups_run l m a (length b)
lookups_in l m (writing a bs) = lookups_run l m a (length bs)
