-- What a call leaves behind a cache. Assumes nothing.
use Rattle.std.proofs.Common.{◌≡◌}
use Rattle.memory.specs.Meaning.{Meaning}
use Rattle.memory.specs.Reach.{Call}
use Rattle.cache.specs.Rules.{CacheState}
use Rattle.cache.specs.State.{Called}
use Rattle.cache_list.specs.Behind.{Behind, call_behind}

pub behind_cached : {Reach Same : Type 0} {m n : Meaning} {o p : CacheState} {c : Call} → Called Reach Same m n o p c → ◌≡◌ {A = Behind} (record { cells = n; state = p }) (call_behind (record { cells = m; state = o }) c)
behind_cached called = λ i. record { cells = called.below i; state = called.state i }
