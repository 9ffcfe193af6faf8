-- Assumes nothing.
use Rattle.std.proofs.Common.{◌≡◌, ◌+◌, ◌-◌, length, take, ap, ◌∙◌, arith}
use borrow.Rule.Slice.PartMut.{put_mid}
use Rattle.memory.specs.Bytes.{overlaid}
use Rattle.memory.proofs.Overlays.{overlaid_part, take_overlaid}
use Rattle.checked.specs.Line.{sealed}
use Rattle.checked.proofs.checked.store.Goals as goal

pub returns : goal.returns
returns c =
    let line = c.args.line.now in
    let bs = c.args.bytes.now in
    let at = c.args.offset in
    let laid : put_mid at (at + length bs - at) line c.copy_from_slice.new.self ≡ overlaid line at bs =
    ap (put_mid at (at + length bs - at) line) c.copy_from_slice.ensures.after ∙ overlaid_part line bs at _ (omega arith) in
    let whole : length line ≡ 129 = c.requires.0 in
    c.seal.ensures ∙ ap (λ ys. sealed (take 128 ys)) laid ∙ ap sealed (take_overlaid line bs at 128 c.requires.1 (omega (arith, whole)))
