-- The counts of a cache. Assumes nothing.
-- no_counts: nothing is counted
-- counted hit kept c: the counts c with one read more, which was a hit or not, and after which a prefetch kept a line or not
-- Steady c: what holds of the counts of every cache
-- share part whole: how many of a thousand, rounded down; 0 where there are none
-- reported c: the report of a cache that counted c
use Rattle.std.specs.Prelude.{ℕ, ◌+◌, ◌*◌, ◌/◌, ◌^◌, ◌≤◌, Bool, cond, ◌==◌, nat_lt}
use Rattle.cache.specs.declared.counts.CacheCounts.{CacheCounts}
use Rattle.cache.specs.declared.counts.CacheReport.{CacheReport}

abbrev pub no_counts : CacheCounts
no_counts = record { reads = 0; hits = 0; prefetches = 0 }

abbrev pub one_if : Bool → ℕ
one_if b = cond b 1 0

-- the read that reaches 2^48 counts whole; after it nothing changes
abbrev pub counted : Bool → Bool → CacheCounts → CacheCounts
counted hit kept c =
    cond (nat_lt c.reads (2 ^ 48))
    (record { reads = c.reads + 1; hits = c.hits + one_if hit; prefetches = c.prefetches + one_if kept })
    c

pub record Steady (c : CacheCounts) : Type 0 where
  pub most : c.reads ≤ 2 ^ 48
  pub hits : c.hits ≤ c.reads
  pub prefetches : c.prefetches ≤ c.reads

abbrev pub share : ℕ → ℕ → ℕ
share part whole = cond (whole == 0) 0 (part * 1000 / whole)

abbrev pub reported : CacheCounts → CacheReport
reported c = record { reads = c.reads; hits = c.hits; prefetches = c.prefetches; share = share c.hits c.reads }
