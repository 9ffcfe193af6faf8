-- The first lines of a memory, one call for each, in their order. Assumes nothing.
-- all_read m n: whether a read of each of the first n lines of m is accepted
-- last_read m n b: what a buffer b holds after these reads
-- after_writes m n bs: the meaning after writes of bs into each of the first n lines
-- all_written m n bs: whether each of these writes is accepted
-- each_read r n, each_written r n bs: whether there is a memory r, and it accepts these calls
-- last_of r n b: what the buffer b holds after these reads of the memory r, if there is one
use Rattle.std.specs.Prelude.{ℕ, zero, suc, ◌*◌, Bool, true, false, ◌&&◌, List, Some, None, Option, is_ok}
use Rattle.memory.specs.Meaning.{Meaning}
use Rattle.memory.specs.Calls.{read_answer, write_answer, delivered, written}

unfoldable pub all_read : Meaning → ℕ → Bool
all_read m zero = true
all_read m (suc n) = all_read m n && is_ok (read_answer m (n * 128) 128)

unfoldable pub last_read : Meaning → ℕ → List ℕ → List ℕ
last_read m zero b = b
last_read m (suc n) b = delivered m (n * 128) (last_read m n b)

unfoldable pub after_writes : Meaning → ℕ → List ℕ → Meaning
after_writes m zero bs = m
after_writes m (suc n) bs = written (after_writes m n bs) (n * 128) bs

unfoldable pub all_written : Meaning → ℕ → List ℕ → Bool
all_written m zero bs = true
all_written m (suc n) bs = all_written m n bs && is_ok (write_answer (after_writes m n bs) (n * 128) 128)

abbrev pub each_read : Option Meaning → ℕ → Bool
each_read (Some m) n = all_read m n
each_read None n = false

abbrev pub each_written : Option Meaning → ℕ → List ℕ → Bool
each_written (Some m) n bs = all_written m n bs
each_written None n bs = false

abbrev pub last_of : Option Meaning → ℕ → List ℕ → List ℕ
last_of (Some m) n b = last_read m n b
last_of None n b = b
