use Rattle.std.proofs.Common.{◌≡◌, ◌+◌, ◌-◌, ◌≤◌, length}
use Rattle.memory.specs.Reach.{OnlyRead}
use Rattle.page_table.specs.Ready.{Ready}
use Rattle.page_table.specs.Tlb.{held_entry, counted_hits, Steady}
use Rattle.transfer.specs.Wholes.{Whole}
use Rattle.transfer.proofs.Gathering.{Gathered}
use Rattle.transfer.proofs.gather.gather_by.Given as goal

-- The bytes that are left.
abbrev pub decreases-loop-done : goal.decreases-loop-done
decreases-loop-done g l = length l.line - l.done

-- The parts so far are read and noted, by a memory that means what it meant.
abbrev pub invariant-loop-done : goal.invariant-loop-done
invariant-loop-done g l =
    let m = g.M.Memory in
    let layout = g.P.Mapping.meaning l.fn.mapping in
    let b = m.meaning l.fn.below in
    Gathered layout b l.fn.tlb l.fn.a.0 (length l.fn.line) l.done l.tlb l.line l.count l.spots
    × (m.meaning l.below ≡ b)
    × m.coherent l.below
    × OnlyRead m.step l.fn.below l.below
    × Ready layout b l.tlb
    × Whole l.whole l.grain (l.fn.a.0 + l.done) (length l.fn.line - l.done)

abbrev pub decreases-loop-done-2 : goal.decreases-loop-done-2
decreases-loop-done-2 g l = length l.line - l.done

-- The same of the parts that follow in one page, for which the entry is held that was held at the first of them, with the hits
-- that are not counted yet.
abbrev pub invariant-loop-done-2 : goal.invariant-loop-done-2
invariant-loop-done-2 g l =
    let m = g.M.Memory in
    let layout = g.P.Mapping.meaning l.fn.mapping in
    let b = m.meaning l.fn.below in
    Gathered layout b l.fn.tlb l.fn.a.0 (length l.fn.line) l.done (counted_hits l.tlb l.hits) l.line l.count l.spots
    × (m.meaning l.below ≡ b)
    × m.coherent l.below
    × OnlyRead m.step l.fn.below l.below
    × Ready layout b (counted_hits l.tlb l.hits)
    × Whole l.whole l.grain (l.fn.a.0 + l.done) (length l.fn.line - l.done)
    × (l.held ≡ held_entry (counted_hits l.tlb l.hits) l.first.page)
    × (l.initial.done ≤ l.done)
    × (l.hits ≤ l.count)
    × Steady l.tlb
