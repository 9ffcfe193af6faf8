-- Assumes nothing.
use Rattle.std.proofs.Common.{◌≡◌, ℕ, ◌+◌, ◌-◌, ◌%◌, min, List, length, get_or, take, drop, ap, ◌∙◌, refl, arith}
use Rattle.std.proofs.lemmas.List.{drop_all}
use Rattle.memory.specs.Reach.{writing}
use Rattle.memory.proofs.Reaches.{reached_none, reached_one, reached_more}
use Rattle.walk.specs.declared.spot.Spot.{Spot}
use Rattle.transfer.proofs.Scattering.{scattering_none, scattering_more, scattering_all, next_spot, bytes_left, store_part, stands_here, store_accepted}
use Rattle.transfer.proofs.Wholes.{whole_first, whole_next}
use Rattle.transfer.proofs.Storing.{store_step}
use Rattle.transfer.proofs.scatter.scatter_by.Goals as goal

pub loop-spot-init : goal.loop-spot-init
loop-spot-init g c = (
  scattering_none _ _ _ _ _ c.requires.table c.requires.spots,
  c.requires.coherent,
  reached_none g.M.Memory.step _,
  whole_first c.args.whole c.args.grain c.args.a.0 (length c.args.bytes.now) c.requires.whole,
)

-- where a spot is left, so are bytes
pub step_size-step-requires-clause-some : goal.step_size-step-requires-clause-some
step_size-step-requires-clause-some g c =
    let l = g.P.Mapping.meaning c.args.mapping.now in
    let laws = g.met.P.Mapping.laws c.args.mapping.now c.requires.armed in
    let nowhere : Spot = record { page = 0; address = record { 0 = 0 } } in
    let f = next_spot c.args.spots.now c.loop-spot.spot-index nowhere c.loop-spot-test.true c.loop-spot.invariant.0 in
    let left = bytes_left l laws (g.M.Memory.meaning c.args.below.now) c.args.a.0 c.args.bytes.now _ _ c.loop-spot.done (g.M.Memory.meaning c.loop-spot.below) f in
    omega (arith, left)

pub loop-spot-preserved : goal.loop-spot-preserved
loop-spot-preserved g c =
    let l = g.P.Mapping.meaning c.args.mapping.now in
    let laws = g.met.P.Mapping.laws c.args.mapping.now c.requires.armed in
    let m = g.M.Memory.meaning c.args.below.now in
    let n = g.M.Memory.meaning c.loop-spot.below in
    let x = g.M.Memory.meaning c.write_part.new.below in
    let a : ℕ = c.args.a.0 in
    let bs : List ℕ = c.args.bytes.now in
    let d : ℕ = c.loop-spot.done in
    let i : ℕ = c.loop-spot.spot-index in
    let step : ℕ = c.step_size-step.result in
    let nowhere : Spot = record { page = 0; address = record { 0 = 0 } } in
    let spot : Spot = get_or c.args.spots.now i nowhere in
    let later : List Spot = drop (i + 1) c.args.spots.now in
    let f = next_spot c.args.spots.now i nowhere c.loop-spot-test.true c.loop-spot.invariant.0 in
    let is : step ≡ min (l.grain - (a + d) % l.grain) (length bs - d) =
    c.step_size-step.ensures ∙ ap (λ g. min (g - (a + d) % g) (length bs - d)) c.requires.grain in
    let part : List ℕ = take step (drop d bs) in
    let same : part ≡ part = refl in
    let piece = store_part l laws m a bs spot later d n f step is c.requires.inside c.requires.accepted part same in
    let here = stands_here l laws m a bs spot later d n f step is c.requires.inside c.requires.accepted part same in
    let fine = store_accepted l laws m a bs spot later d n f step is c.requires.inside c.requires.accepted part same in
    let new = store_step l laws n f.table (a + d) spot.address.0 part piece here fine x c.write_part.ensures.below in (
      scattering_more l laws m a bs spot later d n f step is c.requires.inside c.requires.accepted part same x new,
      c.write_part.ensures.coherent,
      reached_more g.M.Memory.step c.loop-spot.invariant.2 (reached_one g.M.Memory.step (writing _ _) c.write_part.ensures.step),
      whole_next c.args.whole c.args.grain a (length bs) d step (bytes_left l laws m a bs spot later d n f) c.step_size-step.ensures c.loop-spot.invariant.3,
    )

pub returns-clause-all : goal.returns-clause-all
returns-clause-all g c =
    scattering_all _ (g.met.P.Mapping.laws c.args.mapping.now c.requires.armed) _ _ _ _ _ _ (drop_all c.loop-spot.spot-index c.args.spots.now c.loop-spot-test.false) c.loop-spot.invariant.0
