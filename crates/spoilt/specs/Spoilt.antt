-- Spoilt memory by the bytes that it borrows. Assumes nothing.
-- spoilt_cell bytes a: the cell at the address a, a byte at every address but 4230
-- cells_answer a n: acceptance of the n cells from a on, or the fault of the cell at 4230 if that is one of them
-- spoilt_meaning bytes: the meaning of a spoilt memory over these bytes
-- updated bytes a bs: what the borrowed bytes are after a write of bs at a
use Rattle.std.specs.Prelude.{ℕ, ◌/◌, cond, List, length, Ok, Err, Result, is_ok, ◌==◌, slice_index}
use Rattle.std.proofs.Common.{arith}
use Rattle.std.proofs.lemmas.Bool.{cond_both}
use Rattle.memory.specs.declared.fault.Cause.TheVariants.{FailedCheck}
use Rattle.memory.specs.declared.fault.Fault.{Fault}
use Rattle.memory.specs.Fault.{here}
use Rattle.memory.specs.Bytes.{overlaid, AllBytes, within}
use Rattle.memory.specs.Meaning.{Cell, byte, fault, Meaning, capacity, InRange, WellFormed}
use Rattle.memory.specs.Calls.{write_answer}

abbrev pub spoilt_cell : List ℕ → ℕ → Cell
spoilt_cell bytes a = cond (a == 4230) (fault (here FailedCheck 4230)) (byte (slice_index bytes a))

abbrev pub cells_answer : ℕ → ℕ → Result (Unit {0}) Fault
cells_answer a n = cond (within a n 4230) (Err (here FailedCheck 4230)) (Ok tt)

abbrev pub spoilt_meaning : List ℕ → Meaning
spoilt_meaning bytes = record { size = capacity (length bytes / 128); cell = spoilt_cell bytes }

abbrev pub updated : List ℕ → ℕ → List ℕ → List ℕ
updated bytes a bs = cond (is_ok (write_answer (spoilt_meaning bytes) a (length bs))) (overlaid bytes a bs) bytes

pub well_formed : (xs : List ℕ) → AllBytes xs → WellFormed (spoilt_meaning xs)
well_formed xs low = record {
  lines = omega arith;
  most = omega arith;
  cells = λ i below.
      cond_both (i == 4230) _ _ InRange
      (λ _. record { cause_low = omega arith; cause_high = omega arith; depth = omega arith; place = omega arith })
      (λ _. low i);
}
