-- Assumes nothing.
use Rattle.std.proofs.Common.{◌≡◌, refl, ◌+◌, ◌*◌, cond, length, is_ok, is_err, ◌∙◌, sym, ap, subst, arith}
use Rattle.memory.proofs.Reaches.{only_read_none, only_read_more}
use Rattle.page_table.specs.Table.{frame_of}
use Rattle.opening.specs.Opening.{refused_by}
use Rattle.opening.specs.Board.{noted, line_at}
use Rattle.opening.proofs.Examining.{Examined, examined_none, examined_at, examined_all, examined_answer, examined_refused, examined_more}
use Rattle.opening.proofs.Answers.{not_refused}
use Rattle.opening.proofs.Boards.{length_noted}
use Rattle.opening.proofs.examination.check_entries.Goals as goal

pub table-init : goal.table-init
table-init g c = (examined_at (examined_none c.requires.seen) _ (omega arith), refl, refl, c.requires.coherent, only_read_none g.M.Memory.step _)

pub loop-entry-init : goal.loop-entry-init
loop-entry-init g c =
    let i = c.table.invariant in
    let m = g.M.Memory.meaning c.args.below.now in (
      examined_at i.0 (c.table.number * 32) (omega arith),
      i.1,
      c.read_line-line.ensures.meaning ∙ i.2,
      c.read_line-line.ensures.coherent,
      only_read_more g.M.Memory.step i.4 c.read_line-line.ensures.reads,
      c.read_line-line.ensures.line ∙ ap (λ n. line_at n c.entry_address.result.0) i.2 ∙ ap (line_at m) c.entry_address.ensures,
    )

pub returns-after-table-clause-answer : goal.returns-after-table-clause-answer
returns-after-table-clause-answer g c = examined_all c.table.invariant.0 (omega (arith, c.table-test.false))

pub returns-then-is_err-clause-answer : goal.returns-then-is_err-clause-answer
returns-then-is_err-clause-answer g c =
    let i = c.loop-entry.invariant in
    let said = examined_answer i.0 _ c.args.whole _ i.2 c.requires.whole c.entry_frame-frame.ensures.frame in
    examined_refused i.0 c.refused_by-answer.result (omega (arith, c.loop-entry-test.true))
    (c.refused_by-answer.ensures ∙ ap (refused_by c.loop-entry.entry) (c.check_frame.ensures.answer ∙ said))
    (sym c.is_err.ensures.value ∙ c.if-is_err.true)

pub loop-entry-preserved : goal.loop-entry-preserved
loop-entry-preserved g c =
    let i = c.loop-entry.invariant in
    let t = c.args.table in
    let frame = c.entry_frame-frame.ensures.frame in
    let said = examined_answer i.0 _ c.args.whole _ i.2 c.requires.whole frame in
    let is = c.refused_by-answer.ensures ∙ ap (refused_by c.loop-entry.entry) (c.check_frame.ensures.answer ∙ said) in
    let good = sym c.is_err.ensures.value ∙ c.if-is_err.false in
    let accepted = not_refused c.loop-entry.entry c.check_frame.result (ap is_err (sym c.refused_by-answer.ensures) ∙ good) in
    let board : c.check_frame.new.board ≡ noted c.loop-entry.board c.entry_frame-frame.result =
    c.check_frame.ensures.board ∙ ap (λ r. cond (is_ok r) (noted c.loop-entry.board c.entry_frame-frame.result) c.loop-entry.board) accepted in
    let more = examined_more i.0 c.refused_by-answer.result c.entry_frame-frame.result (omega (arith, c.loop-entry-test.true)) (frame ∙ ap (λ n. frame_of t n c.loop-entry.entry) i.2) is good in (
      subst (λ b. Examined t (g.M.Memory.meaning c.args.below.now) (c.loop-entry.entry + 1) b c.refused_by-answer.result) (sym board) more,
      ap length board ∙ length_noted c.loop-entry.board c.entry_frame-frame.result ∙ i.1,
      c.entry_frame-frame.ensures.meaning ∙ i.2,
      c.entry_frame-frame.ensures.coherent,
      only_read_more g.M.Memory.step i.4 c.entry_frame-frame.ensures.reads,
      i.5,
    )

pub returns-then-is_err-clause-reads : goal.returns-then-is_err-clause-reads
returns-then-is_err-clause-reads g c = only_read_more g.M.Memory.step c.loop-entry.invariant.4 c.entry_frame-frame.ensures.reads
