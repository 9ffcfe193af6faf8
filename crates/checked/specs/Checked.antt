-- Checked memory by the bytes that it borrows. Assumes nothing.
-- checked_meaning bytes: the meaning of a checked memory over these bytes
-- updated bytes a bs: what the borrowed bytes are after a write of bs at a
use Rattle.std.specs.Prelude.{ℕ, ◌/◌, ◌%◌, cond, List, length, take, is_ok, ◌==◌, slice_index}
use Rattle.std.proofs.Common.{arith}
use Rattle.std.proofs.lemmas.Bool.{cond_both}
use Rattle.memory.specs.declared.fault.Cause.TheVariants.{FailedCheck}
use Rattle.memory.specs.Fault.{here}
use Rattle.memory.specs.Bytes.{overlaid, AllBytes}
use Rattle.memory.specs.Meaning.{Cell, byte, fault, Meaning, capacity, InRange, WellFormed}
use Rattle.memory.specs.Calls.{write_answer}
use Rattle.checked.specs.Line.{exclusive_or, sealed, line_start, cell_index, checked_line}

-- a byte, if its line passes the check
abbrev pub checked_cell : List ℕ → ℕ → Cell
checked_cell bytes a = cond (exclusive_or (checked_line bytes a) == 0) (byte (slice_index bytes (cell_index a))) (fault (here FailedCheck a))

abbrev pub checked_meaning : List ℕ → Meaning
checked_meaning bytes = record { size = capacity (length bytes / 129); cell = checked_cell bytes }

-- the line's cells with the run's bytes laid over them, and a new check byte
abbrev pub renewed : List ℕ → ℕ → List ℕ → List ℕ
renewed bytes a bs = overlaid bytes (line_start a) (sealed (overlaid (take 128 (checked_line bytes a)) (a % 128) bs))

abbrev pub updated : List ℕ → ℕ → List ℕ → List ℕ
updated bytes a bs = cond (is_ok (write_answer (checked_meaning bytes) a (length bs))) (renewed bytes a bs) bytes

pub well_formed : (bytes : List ℕ) → AllBytes bytes → WellFormed (checked_meaning bytes)
well_formed bytes low = record {
  lines = omega arith;
  most = omega arith;
  cells = λ i below.
      cond_both (exclusive_or (checked_line bytes i) == 0) _ _ InRange
      (λ _. low (cell_index i))
      (λ _. record { cause_low = omega arith; cause_high = omega arith; depth = omega arith; place = omega arith });
}
