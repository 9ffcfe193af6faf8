-- What a list of calls on a cache comes to, by the states it goes through. Assumes nothing.
use Rattle.std.proofs.Common.{◌≡◌, ℕ, ◌%◌, List, [], ◌∷◌, take, drop, refl, ap, ◌∙◌, subst}
use Rattle.memory.specs.Meaning.{Meaning}
use Rattle.memory.specs.Reach.{Call, Linked, Reached, after_calls, Step}
use Rattle.memory.specs.Up.{cells_up}
use Rattle.memory.proofs.Reaches.{reached_none, reached_more}
use Rattle.cache_lines.specs.Lines.{sets_of}
use Rattle.call_list.specs.Record.{Recorded, calls_of}
use Rattle.call_list.specs.Model.{model}
use Rattle.call_list.specs.Follow.{Between}
use Rattle.call_list.specs.Played.{ListPlayed}
use Rattle.cache.specs.declared.layer.Cache.{Cache}
use Rattle.cache.specs.Rules.{CacheState}
use Rattle.cache.specs.State.{Standing, Called}
use Rattle.cache_list.specs.Behind.{Behind, call_behind, behind_after}
use Rattle.cache_list.specs.Played.{StateAfter, CachePlayed}
use Rattle.cache_list.proofs.Helds.{held_law}
use Rattle.cache_lines.proofs.Holds.{two_ways}
use Rattle.cache_list.proofs.Counts.{count_law, sort_law}

-- over the caches on a memory of any kind
module _ {S : Type 0} (meaning : S → Meaning) (coherent : S → Type 0) (R : S → Call → S → Type 0) where
  abbrev Below : S → Call → S → Type 0
  Below = Step meaning coherent R

  abbrev own : Cache S → CacheState
  own w = record { sets = sets_of w.lines; counts = w.counts }

  abbrev CacheCells : Cache S → Meaning
  CacheCells w = cells_up (meaning w.below)

  abbrev CacheCoherent : Cache S → Type 0
  CacheCoherent w = Standing (coherent w.below) (meaning w.below) (sets_of w.lines) w.counts

  abbrev CacheStep : Cache S → Call → Cache S → Type 0
  CacheStep before call after = Called (Reached Below before.below after.below) (after.below ≡ before.below) (meaning before.below) (meaning after.below) (own before) (own after) call

  abbrev Standing_behind : Cache S → Behind
  Standing_behind w = record { cells = meaning w.below; state = own w }

  record Passed (v : Cache S) (cs : List Call) (w : Cache S) : Type 0 where
    reached : Reached Below v.below w.below
    below : meaning w.below ≡ model (meaning v.below) cs
    behind : Standing_behind w ≡ behind_after (Standing_behind v) cs

  passed : (v w : Cache S) (cs : List Call) → Linked (Step CacheCells CacheCoherent CacheStep) v cs w → Passed v cs w
  unfolding Linked after_calls
  passed v w [] e = subst (Passed v []) e (record { reached = reached_none Below v.below; below = refl; behind = refl })
  passed v w (c ∷ cs) l =
      let one = l.1.step in
      let rest = passed l.0 w cs l.2 in
      let step : Standing_behind l.0 ≡ call_behind (Standing_behind v) c = λ i. record { cells = one.below i; state = one.state i } in
      record {
        reached = reached_more Below one.reached rest.reached;
        below = rest.below ∙ ap (λ m. model m cs) one.below;
        behind = rest.behind ∙ ap (λ x. behind_after x cs) step;
      }

  state_after : (v w : Cache S) (cs : List Call) (k : ℕ) → Between CacheCells CacheCoherent CacheStep v cs k w → StateAfter meaning Below v.below (own v) cs k w.below
  state_after v w cs k b =
      let p = passed v b.state (take k cs) b.before in
      record {
        below = b.state.below;
        state = own b.state;
        cells = b.cells;
        behind = p.behind;
        before = p.reached;
        after = (passed b.state w (drop k cs) b.after).reached;
      }

  pub list_on_cache : (v w : Cache S) (cs ds : List Recorded) → CacheCoherent v → ListPlayed CacheCells CacheCoherent CacheStep v w cs ds → CachePlayed meaning coherent R v w cs ds
  list_on_cache v w cs ds standing list =
      let p = passed v w (calls_of cs) list.linked in
      let held = held_law (Standing_behind v) (calls_of cs) (λ n. two_ways v.lines (n % 8)) in
      record {
        list = record {
          calls = list.calls;
          every = λ k low. state_after v w (calls_of cs) k (list.every k low);
          cells = list.cells;
          law = list.law;
          below = p.below;
          behind = p.behind;
          reached = p.reached;
          held = held;
          sorts = sort_law (Standing_behind v) (calls_of cs) held;
          counts = count_law (Standing_behind v) (calls_of cs) standing.steady.most;
        };
        standing = list.coherent_after;
      }
