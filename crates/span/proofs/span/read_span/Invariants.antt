use Rattle.std.proofs.Common.{◌≡◌, ◌+◌, ◌-◌, ◌^◌, ◌<◌, ◌≤◌, ◌++◌, true, length, drop}
use Rattle.memory.specs.Calls.{bytes}
use Rattle.memory.specs.Reach.{reading, Reached}
use Rattle.page_table.specs.Walk.{windowed}
use Rattle.page_table.specs.Ready.{Ready}
use Rattle.window_list.specs.Played.{Behind, call_behind}
use Rattle.span.specs.Runs.{reads_of}
use Rattle.span.specs.Span.{ended, window_answer}
use Rattle.span.proofs.Goings.{SpanSoFar}
use Rattle.span.proofs.Lengths.{length_reading}
use Rattle.span.proofs.span.read_span.Given as goal

-- The runs so far are read, and the others are to be made from what stands behind the window now.
abbrev pub invariant-loop-run : goal.invariant-loop-run
invariant-loop-run g l =
    let m = g.M.Memory in
    let layout = g.P.Mapping.meaning l.fn.mapping in
    record {
      so_far : SpanSoFar {X = Behind} (window_answer layout) (call_behind true layout) reading length_reading
          (ended (window_answer layout) (call_behind true layout) (reads_of l.fn.a.0 l.fn.buffer) (record { cells = m.meaning l.fn.below; tlb = l.fn.tlb }))
          (l.run-end - l.run) l.fn.a.0 l.done (drop l.done l.buffer) (record { cells = m.meaning l.below; tlb = l.tlb });
      filled : l.buffer ≡ bytes (windowed layout (m.meaning l.fn.below)).cell l.fn.a.0 l.done ++ drop l.done l.fn.buffer;
      window : windowed layout (m.meaning l.below) ≡ windowed layout (m.meaning l.fn.below);
      low : l.done ≤ length l.buffer;
      small : l.fn.a.0 + l.done < 2 ^ 64;
      kept : m.coherent l.below;
      reached : Reached m.step l.fn.below l.below;
      ready : Ready layout (m.meaning l.below) l.tlb;
    }
