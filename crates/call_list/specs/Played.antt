-- What a list of calls on a memory comes to. Assumes nothing.
-- ListPlayed meaning coherent R s t cs ds: the calls of cs, made one after another, came back as ds and led the memory from the state s
-- to the state t, each step by its own relation R
use Rattle.std.specs.Prelude.{◌≡◌, ℕ, ◌≤◌, List, length}
use Rattle.memory.specs.Meaning.{Meaning}
use Rattle.memory.specs.Reach.{Call, Linked, Step}
use Rattle.call_list.specs.Record.{Recorded, calls_of}
use Rattle.call_list.specs.Model.{played, model}
use Rattle.call_list.specs.Law.{ListLaw}
use Rattle.call_list.specs.Follow.{Between}

pub record ListPlayed {S : Type 0} (meaning : S → Meaning) (coherent : S → Type 0) (R : S → Call → S → Type 0) (s t : S) (cs ds : List Recorded) : Type 0 where
  -- every answer and buffer is the reference model's; so are size and cells after every call, the last one too
  pub calls : ds ≡ played (meaning s) cs
  pub every : (k : ℕ) → k ≤ length cs → Between meaning coherent R s (calls_of cs) k t
  pub cells : meaning t ≡ model (meaning s) (calls_of cs)
  -- the same without going through the list
  pub law : ListLaw (meaning s) cs ds (meaning t)
  -- the states follow one another, call by call
  pub linked : Linked (Step meaning coherent R) s (calls_of cs) t
  pub coherent_after : coherent t
