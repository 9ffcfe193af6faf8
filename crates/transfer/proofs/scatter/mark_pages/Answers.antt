-- Assumes nothing.
use Rattle.std.proofs.Common.{◌≡◌, true, ℕ, ◌+◌, ◌≤◌, get_or, sym, ap, ◌∙◌, subst}
use Rattle.std.proofs.lemmas.Bool.{false≢true}
use Rattle.memory.proofs.Reaches.{reached_none, reached_more}
use Rattle.page_table.specs.Table.{table_of, entry_address}
use Rattle.page_table.specs.Ready.{Holds}
use Rattle.walk.specs.declared.spot.Spot.{Spot}
use Rattle.walk.specs.Marks.{marked, held_marked}
use Rattle.walk.proofs.Walks.{table_inside}
use Rattle.transfer.proofs.Markings.{marking_none, marking_more, marking_same, marking_all, next_page, none_left}
use Rattle.transfer.proofs.scatter.mark_pages.Goals as goal

pub loop-spot-init : goal.loop-spot-init
loop-spot-init g c = (marking_none _ _ _ _ _ c.requires.ready c.requires.live, c.requires.coherent, reached_none g.M.Memory.step _, λ marked. absurd (false≢true marked))

pub mark-requires-clause-inside : goal.mark-requires-clause-inside
mark-requires-clause-inside g c =
    let l = g.P.Mapping.meaning c.args.mapping.now in
    let m = g.M.Memory.meaning c.loop-spot.below in
    let k : ℕ = (get_or c.args.spots.now c.loop-spot.spot-index (record { page = 0; address = record { 0 = 0 } })).page in
    let x = next_page c.args.spots.now c.loop-spot.spot-index (record { page = 0; address = record { 0 = 0 } }) c.loop-spot-test.true c.loop-spot.invariant.0 in
    subst (λ t. entry_address t k + 4 ≤ m.size) (sym c.of-table.ensures) (table_inside (table_of l) m x.ready.table k x.live.0)

pub loop-spot-preserved : goal.loop-spot-preserved
loop-spot-preserved g c =
    let l = g.P.Mapping.meaning c.args.mapping.now in
    let m = g.M.Memory.meaning c.loop-spot.below in
    let n = g.M.Memory.meaning c.mark.new.below in
    let k : ℕ = (get_or c.args.spots.now c.loop-spot.spot-index (record { page = 0; address = record { 0 = 0 } })).page in
    let x = next_page c.args.spots.now c.loop-spot.spot-index (record { page = 0; address = record { 0 = 0 } }) c.loop-spot-test.true c.loop-spot.invariant.0 in
    let e = c.mark.ensures in (
      marking_more l _ _ _ _ k _ m c.loop-spot.tlb x n c.mark.new.tlb
          (e.below ∙ ap (λ t. marked t c.args.access k m) c.of-table.ensures)
          e.tlb
          (g.met.M.Memory.formed c.mark.new.below e.coherent)
          (subst (λ t. Holds t n c.mark.new.tlb) c.of-table.ensures e.holds)
          e.steady,
      e.coherent,
      reached_more g.M.Memory.step c.loop-spot.invariant.2 e.reached,
      λ marked. sym c.is_held_marked-is_marked.ensures ∙ marked,
    )

pub loop-spot-preserved-then-spot-page : goal.loop-spot-preserved-then-spot-page
loop-spot-preserved-then-spot-page g c =
    let l = g.P.Mapping.meaning c.args.mapping.now in
    let m = g.M.Memory.meaning c.loop-spot.below in
    let nowhere : Spot = record { page = 0; address = record { 0 = 0 } } in
    let k : ℕ = (get_or c.args.spots.now c.loop-spot.spot-index nowhere).page in
    let x = next_page c.args.spots.now c.loop-spot.spot-index nowhere c.loop-spot-test.true c.loop-spot.invariant.0 in
    let before = c.loop-spot.invariant.3 c.if-is_marked.true in
    let here : held_marked c.args.access k c.loop-spot.tlb ≡ true = ap (λ i. held_marked c.args.access i c.loop-spot.tlb) c.if-spot-page.true ∙ before in
    (marking_same l _ _ _ _ k _ m c.loop-spot.tlb x here, c.loop-spot.invariant.1, c.loop-spot.invariant.2, c.loop-spot.invariant.3)

pub returns-clause-below : goal.returns-clause-below
returns-clause-below g c = (marking_all _ _ _ _ _ _ _ _ (none_left c.args.spots.now c.loop-spot.spot-index c.loop-spot-test.false) c.loop-spot.invariant.0).below

pub returns-clause-tlb : goal.returns-clause-tlb
returns-clause-tlb g c = (marking_all _ _ _ _ _ _ _ _ (none_left c.args.spots.now c.loop-spot.spot-index c.loop-spot-test.false) c.loop-spot.invariant.0).tlb
