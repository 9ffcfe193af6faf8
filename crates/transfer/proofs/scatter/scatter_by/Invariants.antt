use Rattle.std.proofs.Common.{◌+◌, ◌-◌, length, drop}
use Rattle.transfer.specs.Wholes.{Whole}
use Rattle.memory.specs.Reach.{Reached}
use Rattle.transfer.proofs.Scattering.{Scattering}
use Rattle.transfer.proofs.scatter.scatter_by.Given as goal

-- The bytes of the spots before are stored.
abbrev pub invariant-loop-spot : goal.invariant-loop-spot
invariant-loop-spot g l =
    let m = g.M.Memory in
    let layout = g.P.Mapping.meaning l.fn.mapping in
    Scattering layout (m.meaning l.fn.below) l.a.0 l.bytes (drop l.spot-index l.spots) l.done (m.meaning l.below)
    × m.coherent l.below
    × Reached m.step l.fn.below l.below
    × Whole l.whole l.grain (l.a.0 + l.done) (length l.bytes - l.done)
