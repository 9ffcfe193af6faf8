-- What a list of calls on a cache comes to. Assumes nothing.
-- StateAfter meaning R s o cs k t: the memory below and what the cache has of its own after the first k of the calls cs, which led from s
-- and o to t
-- PlayedThrough meaning R s t o p cs ds: the calls of cs, made through a cache, came back as ds, and led the memory below from s to t, by
-- calls that the relation R goes along with, and what the cache has of its own from o to p
-- CachePlayed meaning coherent R v w cs ds: the same of a cache that was v and is w, which is as coherent as it was; R is the memory's own
-- relation
use Rattle.std.specs.Prelude.{◌≡◌, ℕ, ◌≤◌, List, length, take}
use Rattle.memory.specs.Meaning.{Meaning}
use Rattle.memory.specs.Reach.{Call, Reached, Step}
use Rattle.memory.specs.Up.{cells_up}
use Rattle.cache_lines.specs.Lines.{sets_of}
use Rattle.call_list.specs.Record.{Recorded, calls_of}
use Rattle.call_list.specs.Model.{played, model}
use Rattle.call_list.specs.Law.{ListLaw}
use Rattle.cache.specs.declared.layer.Cache.{Cache}
use Rattle.cache.specs.Rules.{CacheState}
use Rattle.cache.specs.State.{Standing}
use Rattle.cache_list.specs.Behind.{behind_after}
use Rattle.cache_list.specs.Held.{HeldLaw}
use Rattle.cache_list.specs.Counts.{CountLaw, SortLaw}

pub record StateAfter {S : Type 0} (meaning : S → Meaning) (R : S → Call → S → Type 0) (s : S) (o : CacheState) (cs : List Call) (k : ℕ) (t : S) : Type 0 where
  pub below : S
  pub state : CacheState
  -- the size and the cells of the cache are those of the reference model
  pub cells : cells_up (meaning below) ≡ model (cells_up (meaning s)) (take k cs)
  pub behind : record { cells = meaning below; state = state } ≡ behind_after (record { cells = meaning s; state = o }) (take k cs)
  pub before : Reached R s below
  pub after : Reached R below t

pub record PlayedThrough {S : Type 0} (meaning : S → Meaning) (R : S → Call → S → Type 0) (s t : S) (o p : CacheState) (cs ds : List Recorded) : Type 0 where
  -- every answer and buffer is the reference model's; so are size and cells after every call, the last one too
  pub calls : ds ≡ played (cells_up (meaning s)) cs
  pub every : (k : ℕ) → k ≤ length cs → StateAfter meaning R s o (calls_of cs) k t
  pub cells : cells_up (meaning t) ≡ model (cells_up (meaning s)) (calls_of cs)
  -- the same without going through the list
  pub law : ListLaw (cells_up (meaning s)) cs ds (cells_up (meaning t))
  -- what the calls leave below, hold and count
  pub below : meaning t ≡ model (meaning s) (calls_of cs)
  pub behind : record { cells = meaning t; state = p } ≡ behind_after (record { cells = meaning s; state = o }) (calls_of cs)
  pub reached : Reached R s t
  -- which lines are held, which calls are hits, and what is counted, by the calls that kept a line and those by which it left
  pub held : HeldLaw (record { cells = meaning s; state = o }) (calls_of cs)
  pub sorts : SortLaw (record { cells = meaning s; state = o }) (calls_of cs)
  pub counts : CountLaw (record { cells = meaning s; state = o }) (calls_of cs)

pub record CachePlayed {S : Type 0} (meaning : S → Meaning) (coherent : S → Type 0) (R : S → Call → S → Type 0) (v w : Cache S) (cs ds : List Recorded) : Type 0 where
  pub list : PlayedThrough meaning (Step meaning coherent R) v.below w.below (record { sets = sets_of v.lines; counts = v.counts }) (record { sets = sets_of w.lines; counts = w.counts }) cs ds
  pub standing : Standing (coherent w.below) (meaning w.below) (sets_of w.lines) w.counts
