-- Assumes nothing.
use Rattle.std.proofs.Common.{◌≡◌, is_ok, length, sym, ap, ◌∙◌, subst}
use Rattle.std.specs.Prelude.{Decides}
use Rattle.mapping.specs.Rules.{layout_of}
use Rattle.page_table.specs.Table.{table_of}
use Rattle.opening.specs.Opening.{check_opening, Openable}
use Rattle.window.specs.Report.{reported}
use Rattle.card.specs.SetUp.{values_armed}
use Rattle.card.proofs.Promises.{from_before, promised, by_equals, ran}
use Rattle.card.proofs.window_run.run_window.Goals as goal

pub returns-clause-ran : goal.returns-clause-ran
returns-clause-ran g c =
    let M = g.M.Memory in
    let rules_of = g.P.Registers.RegisterRecord.rules in
    let set = c.in-Ok.set in
    let values = g.P.Mapping.values set.mapping in
    let board = length c.args.board.now in
    let w = c.open-window.result in
    let v = c.play_window-report.new.window in
    let e = c.open-window.ensures in
    let p = c.play_window-report.ensures.played in
    let m = M.meaning c.args.memory in
    let layout : g.P.Mapping.meaning set.mapping ≡ layout_of rules_of values = g.met.P.Mapping.meant set.mapping c.in-Ok.ensures.armed in
    let opening : w.opening ≡ check_opening (table_of (layout_of rules_of values)) m board = e.opening ∙ ap (λ l. check_opening (table_of l) m board) layout in
    let list = by_equals M.meaning M.step (ap is_ok opening) (ap g.P.Mapping.meaning e.mapping ∙ layout) (sym c.close.ensures) e.tlb p.list in
    ran M.meaning M.step rules_of values (values_armed rules_of c.args.writes.now) board c.args.memory c.close.result c.play_window-report.result _ _
    c.in-Ok.ensures.values
    (promised M.meaning M.step rules_of.type_number (layout_of rules_of values) board c.args.memory c.close.result v.tlb _ _ c.play_window-report.result
    (c.play_window-report.ensures.report
    ∙ ap (λ n. reported n v.opening v.tlb) g.met.P.Mapping.numbered
    ∙ ap (λ o. reported rules_of.type_number o v.tlb) (p.opening ∙ opening))
    (subst (λ l. Decides (is_ok (check_opening (table_of l) m board)) (Openable (table_of l) m board)) layout
    (subst (λ o. Decides (is_ok o) (Openable (table_of (g.P.Mapping.meaning set.mapping)) m board)) e.opening e.opens))
    (from_before M.meaning M.step (is_ok (check_opening (table_of (layout_of rules_of values)) m board)) (layout_of rules_of values) c.args.memory w.below c.close.result _ _ _ _ e.meaning e.reads list))
