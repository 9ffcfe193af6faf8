-- Assumes nothing.
use Rattle.std.proofs.Common.{◌≡◌, Ok, Err, refl, sym, ap, ◌∙◌, rules}
use Rattle.std.specs.Result.{result_map_both}
use Rattle.transfer.proofs.Grains.{part_fails, part_is, part_brings}
use Rattle.transfer.proofs.gather.gather_part.Goals as goal

pub returns-clause-buffer : goal.returns-clause-buffer
returns-clause-buffer g c =
    let w = c.walk.ensures in
    part_brings _ _ _ c.requires.ready _ _ c.requires.part c.in_ok-spot.spot.address.0 _ c.read_below.result c.args.buffer.now _ (search rules) w.meaning refl c.read_below.ensures.answer (search rules) c.read_below.ensures.buffer

pub returns-clause-answer : goal.returns-clause-answer
returns-clause-answer g c =
    let w = c.walk.ensures in
    let ok : c.read_below.result ≡ Ok tt = search rules in
    sym ok ∙ part_is _ _ _ c.requires.ready _ _ c.requires.part c.in_ok-spot.spot.address.0 _ c.read_below.result (search rules) w.meaning c.read_below.ensures.answer

pub returns-in_err-read_below-clause-answer : goal.returns-in_err-read_below-clause-answer
returns-in_err-read_below-clause-answer g c =
    let w = c.walk.ensures in
    let bad : c.read_below.result ≡ Err c.in_err-read_below.field-0.0 = search rules in
    let out : c.from_residual-in_err-read_below.result ≡ Err c.in_err-read_below.field-0.0 = search rules in
    ap (result_map_both (λ _. tt) (λ f. f)) out ∙ sym bad
    ∙ part_is _ _ _ c.requires.ready _ _ c.requires.part c.in_ok-spot.spot.address.0 _ c.read_below.result (search rules) w.meaning c.read_below.ensures.answer

pub returns-in_err-spot-clause-answer : goal.returns-in_err-spot-clause-answer
returns-in_err-spot-clause-answer g c =
    let bad : c.walk.result ≡ Err c.in_err-spot.field-0.0 = search rules in
    let out : c.from_residual.result ≡ Err c.in_err-spot.field-0.0 = search rules in
    ap (result_map_both (λ _. tt) (λ f. f)) out
    ∙ part_fails _ _ _ c.requires.ready _ _ c.requires.part c.in_err-spot.field-0.0 c.walk.result bad c.walk.ensures.answer
