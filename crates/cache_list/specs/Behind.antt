-- What stands behind a cache. Assumes nothing.
-- Behind: the cells of the memory below, and what the cache has of its own
-- call_behind x c, behind_after x cs: x after the call c, and after the calls cs
use Rattle.std.specs.Prelude.{List}
use Rattle.memory.specs.Meaning.{Meaning}
use Rattle.memory.specs.Reach.{Call, after_calls, cells_after}
use Rattle.cache.specs.Rules.{CacheState, cache_called}

pub record Behind : Type 0 where
  pub cells : Meaning
  pub state : CacheState

abbrev pub call_behind : Behind → Call → Behind
call_behind x c = record { cells = cells_after x.cells c; state = cache_called x.cells c x.state }

abbrev pub behind_after : Behind → List Call → Behind
behind_after x cs = after_calls call_behind x cs
