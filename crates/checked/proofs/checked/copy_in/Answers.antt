-- Assumes nothing.
use Rattle.std.proofs.Common.{◌≡◌, ◌+◌, ◌-◌, ◌%◌, length, take, ap, ◌∙◌, arith, rules}
use borrow.Rule.Slice.PartMut.{put_mid}
use Rattle.memory.specs.Bytes.{overlaid}
use Rattle.checked.specs.Line.{sealed}
use Rattle.checked.specs.Checked.{checked_meaning, renewed}
use Rattle.checked.proofs.Guards.{room, fits, write_bytes, write_meaning}
use Rattle.checked.proofs.Lines.{length_line, line_part, renewed_part}
use Rattle.checked.proofs.checked.copy_in.Goals as goal

pub line_start-from-requires : goal.line_start-from-requires
line_start-from-requires c = omega (arith, room c.args.borrowed.now c.args.a c.args.bytes.now c.requires)

pub overflow_add-from : goal.overflow_add-from
overflow_add-from c = record { fits = omega (arith, c.line_start-from.ensures, room c.args.borrowed.now c.args.a c.args.bytes.now c.requires) }

pub slice_bounds-store-end : goal.slice_bounds-store-end
slice_bounds-store-end c = omega (arith, c.line_start-from.ensures, room c.args.borrowed.now c.args.a c.args.bytes.now c.requires)

pub store-requires : goal.store-requires
store-requires c =
    let xs = c.args.borrowed.now in
    let ok = c.requires in (
      ap length (line_part xs c.args.a _ c.line_start-from.ensures) ∙ length_line xs c.args.a (room xs c.args.a c.args.bytes.now ok),
      fits xs c.args.a c.args.bytes.now ok,
    )

pub returns : goal.returns
returns c =
    let a = c.args.a in
    let bs = c.args.bytes.now in
    let xs = c.args.borrowed.now in
    let from = c.line_start-from.result in
    let ok = c.requires in
    let laid : put_mid from (from + 129 - from) xs c.store.new.line ≡ renewed xs a bs =
    ap (put_mid from (from + 129 - from) xs) (c.store.ensures ∙ ap (λ l. sealed (overlaid (take 128 l) (a % 128) bs)) (line_part xs a from c.line_start-from.ensures))
    ∙ renewed_part xs a bs (room xs a bs ok) (fits xs a bs ok) from c.line_start-from.ensures in
    record { borrowed = laid ∙ write_bytes xs a bs ok; meaning = ap checked_meaning laid ∙ write_meaning xs a bs ok; bytes = search rules }
