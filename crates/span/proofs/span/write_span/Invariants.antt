use Rattle.std.proofs.Common.{◌≡◌, ◌+◌, ◌-◌, ◌^◌, ◌<◌, ◌≤◌, true, length, take, drop}
use Rattle.memory.specs.Calls.{stored}
use Rattle.memory.specs.Reach.{writing, Reached}
use Rattle.page_table.specs.Walk.{windowed}
use Rattle.page_table.specs.Ready.{Ready}
use Rattle.window_list.specs.Played.{Behind, call_behind}
use Rattle.span.specs.Runs.{writes_of}
use Rattle.span.specs.Span.{ended, window_answer}
use Rattle.span.proofs.Goings.{SpanSoFar}
use Rattle.span.proofs.Lengths.{length_writing}
use Rattle.span.proofs.span.write_span.Given as goal

-- The runs so far are written, and the others are to be made from what stands behind the window now.
abbrev pub invariant-loop-run : goal.invariant-loop-run
invariant-loop-run g l =
    let m = g.M.Memory in
    let layout = g.P.Mapping.meaning l.fn.mapping in
    record {
      so_far : SpanSoFar {X = Behind} (window_answer layout) (call_behind true layout) writing length_writing
          (ended (window_answer layout) (call_behind true layout) (writes_of l.fn.a.0 l.fn.bytes) (record { cells = m.meaning l.fn.below; tlb = l.fn.tlb }))
          (l.run-end - l.run) l.fn.a.0 l.done (drop l.done l.bytes) (record { cells = m.meaning l.below; tlb = l.tlb });
      window : windowed layout (m.meaning l.below) ≡ stored (windowed layout (m.meaning l.fn.below)) l.fn.a.0 (take l.done l.bytes);
      low : l.done ≤ length l.bytes;
      small : l.fn.a.0 + l.done < 2 ^ 64;
      kept : m.coherent l.below;
      reached : Reached m.step l.fn.below l.below;
      ready : Ready layout (m.meaning l.below) l.tlb;
    }
