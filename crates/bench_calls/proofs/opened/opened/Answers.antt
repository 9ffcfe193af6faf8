-- Assumes nothing.
use Rattle.std.proofs.Common.{ap}
use Rattle.bench_calls.proofs.Images.{image_is}
use Rattle.bench_calls.proofs.opened.opened.Goals as goal

pub returns-clause-image : goal.returns-clause-image
returns-clause-image g c =
    let set = c.in_ok-set.set in
    let e = c.open.ensures in
    image_is g.P.Registers.RegisterRecord.rules c.open.result.opening _ _ _ _ _ _ _
    (ap g.P.Mapping.meaning e.mapping) (g.met.P.Mapping.meant set.mapping c.in_ok-set.ensures.armed) e.opening e.meaning c.in_ok-set.ensures.values
