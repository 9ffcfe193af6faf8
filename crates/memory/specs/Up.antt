-- Cells as the layer above has them. Assumes nothing.
-- cell_up c: the cell c as the layer above has it
-- cells_up m: the meaning m, with every cell as the layer above has it
use Rattle.std.specs.Prelude.{ℕ, ◌<◌, ◌≤◌}
use Rattle.std.proofs.Common.{arith}
use Rattle.memory.specs.Fault.{passed_up}
use Rattle.memory.specs.Meaning.{Cell, byte, fault, Meaning, InRange, WellFormed}

-- a byte is the same byte, and a fault is one deeper
abbrev pub cell_up : Cell → Cell
cell_up (byte b) = byte b
cell_up (fault f) = fault (passed_up f)

abbrev pub cells_up : Meaning → Meaning
cells_up m = record { size = m.size; cell = λ i. cell_up (m.cell i) }

pub cell_up_in_range : (c : Cell) → InRange c → InRange (cell_up c)
cell_up_in_range (byte b) s = s
cell_up_in_range (fault f) s = record { cause_low = s.cause_low; cause_high = s.cause_high; depth = omega arith; place = s.place }

pub cells_up_formed : (m : Meaning) → WellFormed m → WellFormed (cells_up m)
cells_up_formed m w = record { lines = w.lines; most = w.most; cells = λ i low. cell_up_in_range (m.cell i) (w.cells i low) }
