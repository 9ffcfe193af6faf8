-- A worked example of a cache, over its definitions. Assumes nothing.
-- byte_read a: a read of one byte at a
-- four_reads: one byte of each of the lines 0, 1, 1 and 3
-- CacheExamples: what a cache reports after these over 512 bytes, whatever they are
use Rattle.std.specs.Prelude.{◌≡◌, ℕ, List, [], ◌∷◌}
use Rattle.memory.specs.Meaning.{byte}
use Rattle.memory.specs.Reach.{Call, reading}
use Rattle.cache.specs.Counts.{reported}
use Rattle.cache.specs.Rules.{empty_cache}
use Rattle.cache_list.specs.Behind.{behind_after}

abbrev pub byte_read : ℕ → Call
byte_read a = reading a (0 ∷ [])

abbrev pub four_reads : List Call
four_reads = byte_read 0 ∷ byte_read 128 ∷ byte_read 255 ∷ byte_read 384 ∷ []

abbrev pub CacheExamples : Type 0
CacheExamples = (f : ℕ → ℕ) → reported (behind_after (record { cells = record { size = 512; cell = λ i. byte (f i) }; state = empty_cache }) four_reads).state.counts ≡ record { reads = 4; hits = 2; prefetches = 2; share = 500 }
