-- The worked example of a cache. Assumes nothing.
use Rattle.std.proofs.Common.{refl}
use Rattle.memory.specs.Calls.{first_fault, read_answer, bytes}
use Rattle.memory.specs.Reach.{after_calls}
use Rattle.cache_lines.specs.Lines.{find, after_hit, without}
use Rattle.cache_lines.specs.Sets.{line_kept, line_hit}
use Rattle.cache.specs.Rules.{after_read}
use Rattle.samples.specs.Caches.{CacheExamples}

pub cache_examples : CacheExamples
unfolding first_fault read_answer bytes after_calls find after_hit without line_kept line_hit after_read
cache_examples f = refl
