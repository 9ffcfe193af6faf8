-- Assumes nothing.
use Rattle.std.proofs.Common.{◌≡◌, ◌+◌, ◌-◌, length, ap, ◌∙◌, arith, rules}
use borrow.Rule.Slice.PartMut.{put_mid}
use Rattle.memory.specs.Bytes.{overlaid}
use Rattle.memory.proofs.Overlays.{overlaid_part}
use Rattle.spoilt.specs.Spoilt.{spoilt_meaning}
use Rattle.spoilt.proofs.Spoilts.{write_inside, write_bytes, write_meaning}
use Rattle.spoilt.proofs.spoilt.copy_in.Goals as goal

pub overflow_add-at : goal.overflow_add-at
overflow_add-at c =
    record { fits = omega (arith, c.cell_index-at.ensures, write_inside c.args.borrowed.now c.args.a c.args.bytes.now c.requires) }

pub slice_bounds-copy_from_slice-end : goal.slice_bounds-copy_from_slice-end
slice_bounds-copy_from_slice-end c =
    omega (arith, c.cell_index-at.ensures, write_inside c.args.borrowed.now c.args.a c.args.bytes.now c.requires)

pub returns : goal.returns
returns c =
    let xs = c.args.borrowed.now in
    let a = c.args.a in
    let bs = c.args.bytes.now in
    let at = c.cell_index-at.result in
    let laid : put_mid at (at + length bs - at) xs c.copy_from_slice.new.self ≡ overlaid xs a bs =
    ap (put_mid at (at + length bs - at) xs) c.copy_from_slice.ensures.after
    ∙ overlaid_part xs bs at _ (omega arith)
    ∙ ap (λ k. overlaid xs k bs) c.cell_index-at.ensures in
    record { borrowed = laid ∙ write_bytes xs a bs c.requires; meaning = ap spoilt_meaning laid ∙ write_meaning xs a bs c.requires; bytes = search rules }
