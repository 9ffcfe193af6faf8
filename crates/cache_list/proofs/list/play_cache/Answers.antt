-- Assumes nothing.
use Rattle.std.proofs.Common.{rules}
use Rattle.cache_list.proofs.Playing.{list_on_cache}
use Rattle.cache_list.proofs.list.play_cache.Goals as goal

pub returns-clause-played : goal.returns-clause-played
returns-clause-played g c = search (rules, list_on_cache)
