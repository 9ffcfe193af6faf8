-- Assumes nothing.
use Rattle.std.proofs.Common.{◌≡◌, ◌+◌, length, Err, refl, sym, ap, ◌∙◌, subst, rules, arith}
use Rattle.std.specs.Result.{result_map_both}
use Rattle.page_table.specs.Ready.{Ready}
use Rattle.page_table.specs.Tlb.{held_entry, counted_hits}
use Rattle.page_table.proofs.Tlbs.{no_hit, one_more_hit, steady_hits}
use Rattle.memory.proofs.Reaches.{only_read_none, only_read_more}
use Rattle.transfer.proofs.Gathering.{NextPart, gathered_none, gathered_refused, lookups_refused, gathered_more, gathered_all}
use Rattle.transfer.proofs.Wholes.{whole_first, whole_next}
use Rattle.transfer.proofs.Following.{gathered_no_hit, following_more, following_refused, following_lookups, ready_counted, held_still}
use Rattle.transfer.proofs.gather.gather_by.Goals.{After-step_size-step, After-step_size-step-in-loop-done-2}
use Rattle.transfer.proofs.gather.gather_by.Given.{Over}
use Rattle.transfer.proofs.gather.gather_by.Goals as goal

next : (g : Over) (c : After-step_size-step g) → NextPart (g.P.Mapping.meaning c.args.mapping.now) (g.M.Memory.meaning c.args.below.now) c.args.tlb.now c.args.a.0 (length c.args.line.now)
    c.loop-done.done c.loop-done.tlb c.loop-done.line c.loop-done.count c.loop-done.spots c.step_size-step.result
next g c =
    let f = c.loop-done.invariant.0 in
    let sized = c.step_size-step.ensures in
    let grain = c.requires.grain in
    let long = f.long in
    record {
      lawful = c.requires.ready.lawful;
      so_far = f;
      more = omega (arith, c.loop-done-test.true, long);
      fits = c.requires.line;
      image = c.requires.inside;
      is = cc;
    }

pub loop-done-init : goal.loop-done-init
loop-done-init g c = (
  gathered_none _ _ _ _ _ _ c.requires.room,
  refl,
  c.requires.coherent,
  only_read_none g.M.Memory.step _,
  c.requires.ready,
  whole_first c.args.whole c.args.grain c.args.a.0 (length c.args.line.now) c.requires.whole,
)

pub returns-in_err-first-clause-reads : goal.returns-in_err-first-clause-reads
returns-in_err-first-clause-reads g c = only_read_more g.M.Memory.step c.loop-done.invariant.3 c.gather_part.ensures.reads

pub returns-clause-answer : goal.returns-clause-answer
returns-clause-answer g c = sym (gathered_all c.loop-done.invariant.0 (omega (arith, c.loop-done-test.false, c.loop-done.invariant.0.long))).0

pub returns-clause-spots : goal.returns-clause-spots
returns-clause-spots g c = (gathered_all c.loop-done.invariant.0 (omega (arith, c.loop-done-test.false, c.loop-done.invariant.0.long))).3

pub returns-clause-tlb : goal.returns-clause-tlb
returns-clause-tlb g c = (gathered_all c.loop-done.invariant.0 (omega (arith, c.loop-done-test.false, c.loop-done.invariant.0.long))).2

pub returns-in_err-first-clause-answer : goal.returns-in_err-first-clause-answer
returns-in_err-first-clause-answer g c =
    let part = next g (goal.at.returns-in_err-first-clause-answer g c).After-step_size-step in
    let e = c.gather_part.ensures in
    let out : c.from_residual.result ≡ Err c.in_err-first.field-0.0 = search rules in
    ap (result_map_both (λ _. tt) (λ f. f)) out ∙ gathered_refused part _ c.loop-done.invariant.1 c.gather_part.result e.answer _ e.tlb _ (search rules)

pub returns-in_err-first-clause-tlb : goal.returns-in_err-first-clause-tlb
returns-in_err-first-clause-tlb g c =
    let part = next g (goal.at.returns-in_err-first-clause-tlb g c).After-step_size-step in
    let e = c.gather_part.ensures in
    lookups_refused part _ c.loop-done.invariant.1 c.gather_part.result e.answer _ e.tlb c.in_err-first.field-0.0 (search rules)

pub loop-done-2-init : goal.loop-done-2-init
loop-done-2-init g c =
    let part = next g (goal.at.loop-done-2-init g c).After-step_size-step in
    let e = c.gather_part.ensures in
    let same = c.loop-done.invariant.1 in
    let now = c.gather_part.new.tlb in
    let none = sym (no_hit now) in
    let b = g.M.Memory.meaning c.args.below.now in
    let layout = g.P.Mapping.meaning c.args.mapping.now in
    let ready : Ready layout b now = search rules in (
      gathered_no_hit
          (gathered_more part _ same c.gather_part.result e.answer _ e.tlb c.in_ok-first.first (search rules) c.gather_part.new.buffer (search rules) (search rules) (search rules)),
      e.meaning ∙ same,
      e.coherent,
      only_read_more g.M.Memory.step c.loop-done.invariant.3 e.reads,
      subst (Ready layout b) none ready,
      whole_next c.args.whole c.args.grain c.args.a.0 (length c.args.line.now) c.loop-done.done c.step_size-step.result (omega (arith, part.more)) (search rules) c.loop-done.invariant.5,
      subst (λ h. c.get-held.result ≡ held_entry h c.in_ok-first.first.page) none c.get-held.ensures,
      omega arith,
      omega arith,
      ready.steady,
    )

-- the part that follows in the same page
after : (g : Over) (c : After-step_size-step-in-loop-done-2 g) → NextPart (g.P.Mapping.meaning c.args.mapping.now) (g.M.Memory.meaning c.args.below.now) c.args.tlb.now c.args.a.0 (length c.args.line.now)
    c.loop-done-2.done (counted_hits c.loop-done-2.tlb c.loop-done-2.hits) c.loop-done-2.line c.loop-done-2.count c.loop-done-2.spots c.step_size-step-in-loop-done-2.result
after g c =
    let f = c.loop-done-2.invariant.0 in
    let sized = c.step_size-step-in-loop-done-2.ensures in
    let grain = c.requires.grain in
    let long = f.long in
    record {
      lawful = c.requires.ready.lawful;
      so_far = f;
      more = omega (arith, c.loop-done-2-test.true, long);
      fits = c.requires.line;
      image = c.requires.inside;
      is = cc;
    }

pub loop-done-2-preserved : goal.loop-done-2-preserved
loop-done-2-preserved g c =
    let part = after g (goal.at.loop-done-2-preserved g c).After-step_size-step-in-loop-done-2 in
    let i = c.loop-done-2.invariant in
    let e = c.read_below.ensures in
    let more = one_more_hit c.loop-done-2.tlb c.loop-done-2.hits in (
      following_more part i.4 i.6 c.in-Some.ensures _ i.1 c.read_below.result e.answer (search rules) _ more _ e.buffer,
      e.meaning ∙ i.1,
      e.coherent,
      only_read_more g.M.Memory.step i.3 e.reads,
      ready_counted i.4 _ more (steady_hits c.loop-done-2.tlb (c.loop-done-2.hits + 1) i.9),
      whole_next c.args.whole c.args.grain c.args.a.0 (length c.args.line.now) c.loop-done-2.done c.step_size-step-in-loop-done-2.result (omega (arith, part.more)) (search rules) i.5,
      held_still (counted_hits c.loop-done-2.tlb c.loop-done-2.hits) c.in_ok-first.first.page c.get-held.result i.6 _ more,
      omega (arith, i.7),
      omega (arith, i.8),
      i.9,
    )

pub returns-in-Err-clause-answer : goal.returns-in-Err-clause-answer
returns-in-Err-clause-answer g c =
    let part = after g (goal.at.returns-in-Err-clause-answer g c).After-step_size-step-in-loop-done-2 in
    let i = c.loop-done-2.invariant in
    following_refused part i.4 i.6 c.in-Some.ensures _ i.1 c.read_below.result c.read_below.ensures.answer c.in-Err.fault (search rules)

pub returns-in-Err-clause-tlb : goal.returns-in-Err-clause-tlb
returns-in-Err-clause-tlb g c =
    let part = after g (goal.at.returns-in-Err-clause-tlb g c).After-step_size-step-in-loop-done-2 in
    let i = c.loop-done-2.invariant in
    following_lookups part i.4 i.6 c.in-Some.ensures _ i.1 c.read_below.result c.read_below.ensures.answer c.in-Err.fault (search rules) _
    (c.count_hits.ensures.value ∙ one_more_hit c.loop-done-2.tlb c.loop-done-2.hits)

pub returns-in-Err-clause-reads : goal.returns-in-Err-clause-reads
returns-in-Err-clause-reads g c = only_read_more g.M.Memory.step c.loop-done-2.invariant.3 c.read_below.ensures.reads

pub returns-in-Err-clause-ready : goal.returns-in-Err-clause-ready
returns-in-Err-clause-ready g c =
    let i = c.loop-done-2.invariant in
    let e = c.count_hits.ensures in
    subst (λ m. Ready (g.P.Mapping.meaning c.args.mapping.now) m c.count_hits.new.self) (sym (c.read_below.ensures.meaning ∙ i.1))
    (ready_counted i.4 _ (e.value ∙ one_more_hit c.loop-done-2.tlb c.loop-done-2.hits) e.steady)
