-- The states that a list of calls goes through. Assumes nothing.
-- Between meaning coherent R s cs k t: the state after the first k of the calls cs, from s before them to t after all
use Rattle.std.specs.Prelude.{◌≡◌, ℕ, List, take, drop}
use Rattle.memory.specs.Meaning.{Meaning}
use Rattle.memory.specs.Reach.{Call, Linked, Step}
use Rattle.call_list.specs.Model.{model}

-- its size and cells are those of the reference model
pub record Between {S : Type 0} (meaning : S → Meaning) (coherent : S → Type 0) (R : S → Call → S → Type 0) (s : S) (cs : List Call) (k : ℕ) (t : S) : Type 0 where
  pub state : S
  pub cells : meaning state ≡ model (meaning s) (take k cs)
  pub kept : coherent state
  pub before : Linked (Step meaning coherent R) s (take k cs) state
  pub after : Linked (Step meaning coherent R) state (drop k cs) t
