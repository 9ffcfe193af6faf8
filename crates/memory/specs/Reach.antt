-- Calls as data, and the states that calls lead to. Assumes nothing.
-- Linked R s cs t: the calls cs lead from the state s to the state t, each by the relation R
-- Reached R s t: some calls do
-- AllReads cs: every one of the calls cs is a read
-- OnlyRead R s t: reads alone lead from s to t
-- first_cell c, cells_of c: the address and the length of the run of the call c
-- Writes c: c is a write
-- cells_after m c: the cells m after the call c
-- Step meaning coherent R s c t: the call c took a memory from the state s to the state t, by the relation R and as every memory answers
-- bytes_after f xs c: what the bytes xs are after the call c, where f says what they are after a write
-- after_calls f x cs: what x becomes by the calls cs, one after the other, where f says what it becomes by one
use Rattle.std.specs.Prelude.{◌≡◌, ℕ, List, [], ◌∷◌, length}
use Rattle.memory.specs.Meaning.{Meaning}
use Rattle.memory.specs.Calls.{written}

pub data Call : Type 0 where
  -- a read at an address, into a buffer that held these bytes
  reading : ℕ → List ℕ → Call
  -- a write of these bytes at an address
  writing : ℕ → List ℕ → Call

abbrev pub first_cell : Call → ℕ
first_cell (reading a b) = a
first_cell (writing a bs) = a

abbrev pub cells_of : Call → ℕ
cells_of (reading a b) = length b
cells_of (writing a bs) = length bs

abbrev pub Writes : Call → Type 0
Writes (reading a b) = ⊥
Writes (writing a bs) = Unit {0}

abbrev pub cells_after : Meaning → Call → Meaning
cells_after m (reading a b) = m
cells_after m (writing a bs) = written m a bs

pub record Step {S : Type 0} (meaning : S → Meaning) (coherent : S → Type 0) (R : S → Call → S → Type 0) (s : S) (c : Call) (t : S) : Type 0 where
  pub cells : meaning t ≡ cells_after (meaning s) c
  pub kept : coherent t
  pub step : R s c t

-- a read leaves them
abbrev pub bytes_after : (List ℕ → ℕ → List ℕ → List ℕ) → List ℕ → Call → List ℕ
bytes_after updated xs (reading a b) = xs
bytes_after updated xs (writing a bs) = updated xs a bs

unfoldable pub Linked : {S : Type 0} → (S → Call → S → Type 0) → S → List Call → S → Type 0
Linked R s [] t = s ≡ t
Linked {S} R s (c ∷ cs) t = (u : S) × R s c u × Linked R u cs t

pub record Reached {S : Type 0} (R : S → Call → S → Type 0) (s t : S) : Type 0 where
  pub calls : List Call
  pub linked : Linked R s calls t

unfoldable pub AllReads : List Call → Type 0
AllReads [] = Unit {0}
AllReads (reading a b ∷ cs) = AllReads cs
AllReads (writing a bs ∷ cs) = ⊥

pub record OnlyRead {S : Type 0} (R : S → Call → S → Type 0) (s t : S) : Type 0 where
  pub calls : List Call
  pub linked : Linked R s calls t
  pub reads : AllReads calls

unfoldable pub after_calls : {X : Type 0} → (X → Call → X) → X → List Call → X
after_calls f x [] = x
after_calls f x (c ∷ cs) = after_calls f (f x c) cs
