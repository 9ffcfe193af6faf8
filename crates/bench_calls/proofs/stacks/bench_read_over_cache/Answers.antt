-- Assumes nothing.
use Rattle.std.proofs.Common.{Option, length, ap, ◌∙◌}
use Rattle.memory.specs.Meaning.{Meaning}
use Rattle.memory.specs.Up.{cells_up}
use Rattle.plain.specs.Plain.{plain_meaning}
use Rattle.stride.specs.Stride.{stride_rules}
use Rattle.bench_calls.specs.Image.{image, board_after}
use Rattle.bench_calls.specs.Lines.{each_read, last_of}
use Rattle.bench_calls.proofs.stacks.bench_read_over_cache.Goals as goal

-- the cache stands over the bytes as they were lent
pub returns-clause-answer : goal.returns-clause-answer
returns-clause-answer c =
    let over : Meaning → Option Meaning = λ m. image stride_rules c.args.registers.now (cells_up m) (length c.args.board.now) in
    c.read_each.ensures.answer
    ∙ ap (λ r. each_read r c.args.lines)
    (c.opened-window.ensures.image
    ∙ ap (λ p. over (plain_meaning p.bytes.now)) c.new-cache.ensures.below
    ∙ ap (λ bs. over (plain_meaning bs)) c.new.ensures.bytes.holds)

pub returns-clause-line : goal.returns-clause-line
returns-clause-line c =
    let over : Meaning → Option Meaning = λ m. image stride_rules c.args.registers.now (cells_up m) (length c.args.board.now) in
    c.read_each.ensures.line
    ∙ ap (λ r. last_of r c.args.lines c.args.line.now)
    (c.opened-window.ensures.image
    ∙ ap (λ p. over (plain_meaning p.bytes.now)) c.new-cache.ensures.below
    ∙ ap (λ bs. over (plain_meaning bs)) c.new.ensures.bytes.holds)

pub returns-clause-board : goal.returns-clause-board
returns-clause-board c =
    let over : Meaning → Option Meaning = λ m. image stride_rules c.args.registers.now (cells_up m) (length c.args.board.now) in
    c.opened-window.ensures.board
    ∙ ap (λ w. board_after w c.args.board.now)
    (ap (λ p. over (plain_meaning p.bytes.now)) c.new-cache.ensures.below
    ∙ ap (λ bs. over (plain_meaning bs)) c.new.ensures.bytes.holds)
