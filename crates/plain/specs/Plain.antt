-- Plain memory by the bytes that it borrows. Assumes nothing.
-- plain_meaning bytes: the meaning of a plain memory over these bytes
-- updated bytes a bs: what the borrowed bytes are after a write of bs at a
use Rattle.std.specs.Prelude.{ℕ, ◌/◌, cond, List, length, is_ok, slice_index}
use Rattle.std.proofs.Common.{arith}
use Rattle.memory.specs.Bytes.{overlaid, AllBytes}
use Rattle.memory.specs.Meaning.{Meaning, byte, capacity, WellFormed}
use Rattle.memory.specs.Calls.{write_answer}

abbrev pub plain_meaning : List ℕ → Meaning
plain_meaning bytes = record { size = capacity (length bytes / 128); cell = λ i. byte (slice_index bytes i) }

abbrev pub updated : List ℕ → ℕ → List ℕ → List ℕ
updated bytes a bs = cond (is_ok (write_answer (plain_meaning bytes) a (length bs))) (overlaid bytes a bs) bytes

pub well_formed : (xs : List ℕ) → AllBytes xs → WellFormed (plain_meaning xs)
well_formed xs low = record {
  lines = omega arith;
  most = omega arith;
  cells = λ i below. low i;
}
