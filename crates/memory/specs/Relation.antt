-- Relations between two meanings. Cells beyond the size belong to nobody, so both speak of those below it. Assumes nothing.
-- Kept m n: what no call changes, from m before to n after
-- Agree m n: m and n have one size, and the same cells
-- Agreement: it is an equivalence, and of two meanings that agree every call has the same answer, brings the same bytes, and
-- leaves meanings that agree
use Rattle.std.specs.Prelude.{◌≡◌, ℕ, ◌<◌, List}
use Rattle.memory.specs.declared.fault.Fault.{Fault}
use Rattle.memory.specs.Meaning.{byte, fault, Meaning}
use Rattle.memory.specs.Calls.{read_answer, write_answer, delivered, written}

pub record Kept (m n : Meaning) : Type 0 where
  pub size : n.size ≡ m.size
  pub faults : (i : ℕ) (f : Fault) → i < m.size → m.cell i ≡ fault f → n.cell i ≡ fault f
  pub bytes : (i b : ℕ) → i < m.size → m.cell i ≡ byte b → (c : ℕ) × (n.cell i ≡ byte c)

pub record Agree (m n : Meaning) : Type 0 where
  pub size : m.size ≡ n.size
  pub cells : (i : ℕ) → i < m.size → m.cell i ≡ n.cell i

pub record Agreement : Type 0 where
  pub same : (m : Meaning) → Agree m m
  pub back : (m n : Meaning) → Agree m n → Agree n m
  pub more : (m n o : Meaning) → Agree m n → Agree n o → Agree m o
  pub reads : (m n : Meaning) → Agree m n → (a k : ℕ) → read_answer m a k ≡ read_answer n a k
  pub writes : (m n : Meaning) → Agree m n → (a k : ℕ) → write_answer m a k ≡ write_answer n a k
  pub buffers : (m n : Meaning) → Agree m n → (a : ℕ) (b : List ℕ) → delivered m a b ≡ delivered n a b
  pub left : (m n : Meaning) → Agree m n → (a : ℕ) (bs : List ℕ) → Agree (written m a bs) (written n a bs)
