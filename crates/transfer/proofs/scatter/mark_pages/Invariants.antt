use Rattle.std.proofs.Common.{◌≡◌, true, map, drop}
use Rattle.walk.specs.Marks.{held_marked}
use Rattle.memory.specs.Reach.{Reached}
use Rattle.transfer.proofs.Markings.{Marking}
use Rattle.transfer.proofs.scatter.mark_pages.Given as goal

-- The pages of the spots before are marked, and the last of them is held with its marks set, if `is_marked` says so.
abbrev pub invariant-loop-spot : goal.invariant-loop-spot
invariant-loop-spot g l =
    let m = g.M.Memory in
    let layout = g.P.Mapping.meaning l.fn.mapping in
    Marking layout (m.meaning l.fn.below) l.fn.tlb l.access (map (λ spot. spot.page) l.spots) (map (λ spot. spot.page) (drop l.spot-index l.spots)) (m.meaning l.below) l.tlb
    × m.coherent l.below
    × Reached m.step l.fn.below l.below
    × (l.is_marked ≡ true → held_marked l.access l.page l.tlb ≡ true)
