-- Assumes nothing.
use Rattle.std.proofs.Common.{◌≡◌, is_ok, length, sym, ap, ◌∙◌, subst}
use Rattle.std.specs.Prelude.{Decides}
use Rattle.memory.specs.Reach.{OnlyRead}
use Rattle.mapping.specs.Rules.{layout_of}
use Rattle.page_table.specs.Table.{table_of}
use Rattle.opening.specs.Opening.{check_opening, Openable}
use Rattle.window.specs.Report.{reported}
use Rattle.card.specs.SetUp.{values_armed}
use Rattle.card.proofs.Under.{under, ran_under}
use Rattle.card.proofs.under_cache.run_cache_over_window.Goals as goal

pub returns-clause-ran : goal.returns-clause-ran
returns-clause-ran g c =
    let M = g.M.Memory in
    let rules_of = g.P.Registers.RegisterRecord.rules in
    let set = c.in-Ok.set in
    let values = g.P.Mapping.values set.mapping in
    let board = length c.args.board.now in
    let e = c.open.ensures in
    let m = M.meaning c.args.memory in
    let v = c.new-cache.result.below in
    let made = c.new-cache.ensures.below in
    let layout : g.P.Mapping.meaning set.mapping ≡ layout_of rules_of values = g.met.P.Mapping.meant set.mapping c.in-Ok.ensures.armed in
    let opening : c.open.result.opening ≡ check_opening (table_of (layout_of rules_of values)) m board = e.opening ∙ ap (λ l. check_opening (table_of l) m board) layout in
    let closed = c.close-window.ensures in
    ran_under M.meaning M.step rules_of values (values_armed rules_of c.args.writes.now) board c.args.memory c.close.result c.play_cache-cached.new.cache.below.below _ _ _
    c.in-Ok.ensures.values (sym (c.close.ensures ∙ ap (λ w. w.below) closed))
    (under g.P.Mapping.armed g.P.Mapping.meaning M.meaning M.coherent M.step (layout_of rules_of values) board c.args.memory v
    (ap (λ w. w.opening) made ∙ opening)
    (ap (λ w. g.P.Mapping.meaning w.mapping) made ∙ ap g.P.Mapping.meaning e.mapping ∙ layout)
    (ap (λ w. M.meaning w.below) made ∙ e.meaning)
    (subst (λ w. OnlyRead M.step c.args.memory w.below) (sym made) e.reads)
    (ap (λ w. w.tlb) made ∙ e.tlb)
    rules_of.type_number c.play_cache-cached.new.cache.below _ _ _ _ c.play_cache-cached.ensures.played.list c.new-cache.ensures.state _ _
    (c.report-report.ensures
    ∙ ap (λ w. reported g.P.Mapping.TYPE_NUMBER w.opening w.tlb) closed
    ∙ ap (λ n. reported n c.play_cache-cached.new.cache.below.opening c.play_cache-cached.new.cache.below.tlb) g.met.P.Mapping.numbered)
    c.play_cache-cached.ensures.report
    (subst (λ l. Decides (is_ok (check_opening (table_of l) m board)) (Openable (table_of l) m board)) layout
    (subst (λ o. Decides (is_ok o) (Openable (table_of (g.P.Mapping.meaning set.mapping)) m board)) e.opening e.opens)))
