-- What a window over a cache is promised to do, from its registers to its closing. Assumes nothing.
-- cache_cells meaning c: the cells of the cache c
-- CacheCalled meaning coherent R c a d: what the call a does to the cache c, which becomes d
-- OverCache meaning coherent R rules board s t outcome report cs ds set_up: a cache was made over a memory in the state s; a window over the
-- cache was set up, opened, played the list cs, which came back as ds, and was closed; the cache was reported on and closed, and left the
-- memory in the state t
use Rattle.std.specs.Prelude.{◌≡◌, ℕ, List, Ok, Err, Result}
use Rattle.memory.specs.Meaning.{Meaning}
use Rattle.memory.specs.Reach.{Call, Reached, Step}
use Rattle.memory.specs.Up.{cells_up}
use Rattle.mapping.specs.Rules.{Rules, layout_of}
use Rattle.transfer.specs.Effect.{StandsThere, MarksThere}
use Rattle.window.specs.declared.report.WindowReport.{WindowReport}
use Rattle.cache_lines.specs.Lines.{sets_of}
use Rattle.cache.specs.declared.layer.Cache.{Cache}
use Rattle.cache.specs.declared.counts.CacheReport.{CacheReport}
use Rattle.cache.specs.Counts.{reported}
use Rattle.cache.specs.Rules.{CacheState, empty_cache}
use Rattle.cache.specs.State.{Called}
use Rattle.call_list.specs.Record.{Recorded}
use Rattle.card.specs.declared.refusal.SetUpRefusal.{SetUpRefusal}
use Rattle.card.specs.Promise.{Ran}

abbrev pub state_of : {S : Type 0} → Cache S → CacheState
state_of c = record { sets = sets_of c.lines; counts = c.counts }

abbrev pub cache_cells : {S : Type 0} → (S → Meaning) → Cache S → Meaning
cache_cells meaning c = cells_up (meaning c.below)

abbrev pub CacheCalled : {S : Type 0} → (S → Meaning) → (S → Type 0) → (S → Call → S → Type 0) → Cache S → Call → Cache S → Type 0
CacheCalled meaning coherent R c a d = Called (Reached (Step meaning coherent R) c.below d.below) (d.below ≡ c.below) (meaning c.below) (meaning d.below) (state_of c) (state_of d) a

-- of the memory below the cache nothing else changes either
abbrev pub OthersStand : Meaning → Meaning → Result (List ℕ) SetUpRefusal → Rules → Type 0
OthersStand m n (Ok values) rules = (p : ℕ) → (StandsThere (layout_of rules values) (cells_up m) p → ⊥) → (MarksThere (layout_of rules values) (cells_up m) p → ⊥) → n.cell p ≡ m.cell p
OthersStand m n (Err refusal) rules = n ≡ m

pub record OverCache {S : Type 0} (meaning : S → Meaning) (coherent : S → Type 0) (R : S → Call → S → Type 0) (rules : Rules) (board : ℕ) (s t : S) (outcome : Result WindowReport SetUpRefusal) (report : CacheReport) (cs ds : List Recorded) (set_up : Result (List ℕ) SetUpRefusal) : Type 0 where
  -- the cache as it was made, and as it was closed
  pub made : Cache S
  pub left : Cache S
  pub over : made.below ≡ s
  pub empty : state_of made ≡ empty_cache
  pub back : t ≡ left.below
  -- the whole promise of the window, over the cache as the memory next below
  pub ran : Ran (cache_cells meaning) (CacheCalled meaning coherent R) rules board made left outcome cs ds set_up
  -- what the cache reports is what it counted of the calls that it got
  pub reports : report ≡ reported left.counts
  pub size : (meaning t).size ≡ (meaning s).size
  pub others : OthersStand (meaning s) (meaning t) set_up rules
