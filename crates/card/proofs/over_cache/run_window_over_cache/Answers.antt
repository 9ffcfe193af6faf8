-- Assumes nothing.
use Rattle.std.proofs.Common.{sym, ap, ◌∙◌, subst}
use Rattle.card.specs.SetUp.{values_armed}
use Rattle.card.specs.OverCache.{OthersStand}
use Rattle.card.proofs.Cells.{size_stands, others_stand}
use Rattle.card.proofs.over_cache.run_window_over_cache.Goals as goal

pub returns-clause-ran : goal.returns-clause-ran
returns-clause-ran g c =
    let M = g.M.Memory in
    let rules = g.P.Registers.RegisterRecord.rules in
    let set_up = values_armed rules c.args.writes.now in
    let ran = c.run_window-run.ensures.ran in
    let left = c.run_window-run.result.memory in
    let over = ap M.meaning c.new.ensures.below in
    let back = ap M.meaning c.close.ensures in
    record {
      made = c.new.result;
      left = left;
      over = c.new.ensures.below;
      empty = c.new.ensures.state;
      back = c.close.ensures;
      ran = ran;
      reports = c.report-report.ensures;
      size = ap (λ m. m.size) back ∙ size_stands M.meaning M.coherent M.step rules _ c.new.result left _ _ _ set_up ran ∙ ap (λ m. m.size) over;
      others =
          subst (λ m. OthersStand m (M.meaning c.close.result) set_up rules) over
          (subst (λ n. OthersStand (M.meaning c.new.result.below) n set_up rules) (sym back)
          (others_stand M.meaning M.coherent M.step rules _ c.new.result left _ _ _ set_up ran));
    }
