-- What a list of calls comes to, without going through it step by step. Assumes nothing.
-- at cs k: the record at the index k of the list cs
-- Stores m c i: the call c is a write to the cell i, and the cells m accept it
-- LastStore m cs i k: the call at the index k is the last one of cs that stores into the cell i
-- Holds m cs i x: x is the byte that the last such call put there, or, where there is none, the cell that m has
-- Answered m before c d: the record c, whose call came after those of `before`, came back as d
-- ListLaw m cs ds n: the calls of cs, made on the cells m, came back as ds and left the cells n
use Rattle.std.specs.Prelude.{◌≡◌, ℕ, ◌+◌, ◌-◌, ◌<◌, ◌≤◌, ◌⊎◌, List, [], length, take, slice_index, slice_index_or, Some, None, Ok, Err}
use Rattle.memory.specs.declared.access.Access.TheVariants.{Read, Write}
use Rattle.memory.specs.declared.fault.Fault.{Fault}
use Rattle.memory.specs.Meaning.{Cell, byte, Meaning}
use Rattle.call_list.specs.Record.{Recorded, call_of}
use Rattle.call_list.specs.Model.{call_answer}

abbrev pub at : List Recorded → ℕ → Recorded
at cs k = slice_index_or cs k (record { access = Read; address = 0; buffer = []; reply = None })

pub record Stores (m : Meaning) (c : Recorded) (i : ℕ) : Type 0 where
  pub access : c.access ≡ Write
  pub accepted : call_answer m (call_of c) ≡ Ok tt
  pub from : c.address ≤ i
  pub below : i < c.address + length c.buffer

pub record LastStore (m : Meaning) (cs : List Recorded) (i k : ℕ) : Type 0 where
  pub inside : k < length cs
  pub stores : Stores m (at cs k) i
  pub latest : (j : ℕ) → k < j → j < length cs → Stores m (at cs j) i → ⊥

abbrev pub Holds : Meaning → List Recorded → ℕ → Cell → Type 0
Holds m cs i x =
    ((k : ℕ) × LastStore m cs i k × (x ≡ byte (slice_index (at cs k).buffer (i - (at cs k).address))))
    ⊎ (((k : ℕ) → k < length cs → Stores m (at cs k) i → ⊥) × (x ≡ m.cell i))

-- what it asked has not changed; it is refused just where the cells at the start refuse it; and an accepted read brought what the
-- cells of its run held at its place in the list
pub record Answered (m : Meaning) (before : List Recorded) (c d : Recorded) : Type 0 where
  pub access : d.access ≡ c.access
  pub address : d.address ≡ c.address
  pub answer : d.reply ≡ Some (call_answer m (call_of c))
  pub long : length d.buffer ≡ length c.buffer
  pub write : c.access ≡ Write → d.buffer ≡ c.buffer
  pub refused : (f : Fault) → call_answer m (call_of c) ≡ Err f → d.buffer ≡ c.buffer
  pub read : c.access ≡ Read → call_answer m (call_of c) ≡ Ok tt → (i : ℕ) → i < length c.buffer → Holds m before (c.address + i) (byte (slice_index d.buffer i))

pub record ListLaw (m : Meaning) (cs ds : List Recorded) (n : Meaning) : Type 0 where
  pub count : length ds ≡ length cs
  pub calls : (k : ℕ) → k < length cs → Answered m (take k cs) (at cs k) (at ds k)
  pub size : n.size ≡ m.size
  pub cells : (i : ℕ) → Holds m cs i (n.cell i)
