-- How long the run of a call is, and where an accepted one ends. Assumes nothing.
use Rattle.std.proofs.Common.{◌≡◌, ℕ, ◌+◌, ◌^◌, ◌<◌, List, length, Ok, refl, sym, ◌∙◌, arith}
use Rattle.memory.specs.Meaning.{Meaning, WellFormed}
use Rattle.memory.specs.Up.{cells_up}
use Rattle.memory.specs.Calls.{read_answer, write_answer}
use Rattle.memory.specs.Reach.{reading, writing, cells_of}
use Rattle.memory.proofs.Runs.{Taken}
use Rattle.memory.proofs.Calls.{writes_as_reads}
use Rattle.memory.proofs.Writes.{accepted_taken}
use Rattle.mapping.specs.Rules.{Layout}
use Rattle.mapping.specs.Laws.{Lawful}
use Rattle.page_table.specs.Walk.{windowed}

pub length_reading : (a : ℕ) (b : List ℕ) → cells_of (reading a b) ≡ length b
length_reading a b = refl

pub length_writing : (a : ℕ) (bs : List ℕ) → cells_of (writing a bs) ≡ length bs
length_writing a bs = refl

pub read_ends : (l : Layout) (m : Meaning) → Lawful l → (a n : ℕ) → read_answer (windowed l m) a n ≡ Ok tt → a + n < 2 ^ 64
read_ends l m laws a n taken =
    let t : Taken l.image_size a n = accepted_taken (windowed l m) a n taken in
    let low : l.image_size < 2 ^ 32 = laws.image_low in
    omega arith

pub write_ends : (l : Layout) (m : Meaning) → Lawful l → (a n : ℕ) → write_answer (windowed l m) a n ≡ Ok tt → a + n < 2 ^ 64
write_ends l m laws a n taken = read_ends l m laws a n (sym (writes_as_reads (windowed l m) a n) ∙ taken)

-- the same of a cache over a memory
pub read_ends_cached : (m : Meaning) → WellFormed m → (a n : ℕ) → read_answer (cells_up m) a n ≡ Ok tt → a + n < 2 ^ 64
read_ends_cached m formed a n taken =
    let t : Taken m.size a n = accepted_taken (cells_up m) a n taken in
    omega (arith, formed.most)

pub write_ends_cached : (m : Meaning) → WellFormed m → (a n : ℕ) → write_answer (cells_up m) a n ≡ Ok tt → a + n < 2 ^ 64
write_ends_cached m formed a n taken = read_ends_cached m formed a n (sym (writes_as_reads (cells_up m) a n) ∙ taken)
