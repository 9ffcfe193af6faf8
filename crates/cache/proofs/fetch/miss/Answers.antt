-- Assumes nothing.
use Rattle.std.proofs.Common.{◌/◌, ◌%◌, length, take, drop, refl, sym, ap, ◌∙◌, arith}
use Rattle.memory.specs.Fault.{from_below}
use Rattle.memory.specs.Calls.{read_answer, delivered}
use Rattle.memory.proofs.Reaches.{only_read_more}
use Rattle.memory.proofs.Ups.{read_inside_up, delivered_up}
use Rattle.cache.proofs.Copies.{fetched_some, run_answer, run_delivered}
use Rattle.cache.proofs.fetch.miss.Goals as goal

pub returns-in-Some-clause-answer : goal.returns-in-Some-clause-answer
returns-in-Some-clause-answer g c =
    let got = fetched_some _ _ _ c.in-Some.line c.in-Some.ensures.line in
    run_answer (g.M.Memory.meaning c.args.below.now) c.args.a (length c.args.buffer.now) c.requires.taken got.0

pub returns-in-Some-clause-buffer : goal.returns-in-Some-clause-buffer
returns-in-Some-clause-buffer g c =
    let m = g.M.Memory.meaning c.args.below.now in
    let a = c.args.a in
    let b = c.args.buffer.now in
    let got = fetched_some m (a / 128) _ c.in-Some.line c.in-Some.ensures.line in
    c.copy_from_slice.ensures.after
    ∙ ap (λ k. take k (drop (a % 128) c.in-Some.line.bytes)) (omega arith)
    ∙ ap (λ x. take (length b) (drop (a % 128) x.bytes)) got.1
    ∙ run_delivered m a (length b) c.requires.taken got.0 b refl

pub returns-in-None-clause-answer : goal.returns-in-None-clause-answer
returns-in-None-clause-answer g c =
    let m = g.M.Memory.meaning c.args.below.now in
    let n = length c.args.buffer.now in
    c.read_alone.ensures.answer
    ∙ ap (λ x. from_below (read_answer x c.args.a n)) c.fetch.ensures.meaning
    ∙ sym (read_inside_up m c.args.a n c.requires.taken)

pub returns-in-None-clause-buffer : goal.returns-in-None-clause-buffer
returns-in-None-clause-buffer g c =
    c.read_alone.ensures.buffer
    ∙ ap (λ x. delivered x c.args.a c.args.buffer.now) c.fetch.ensures.meaning
    ∙ sym (delivered_up (g.M.Memory.meaning c.args.below.now) c.args.a c.args.buffer.now)

pub returns-in-None-clause-reads : goal.returns-in-None-clause-reads
returns-in-None-clause-reads g c = only_read_more _ c.fetch.ensures.reads c.read_alone.ensures.reads
