use Rattle.std.proofs.Common.{◌≡◌, ◌+◌, ◌-◌, ◌^◌, ◌<◌, ◌≤◌, length, take, drop}
use Rattle.memory.specs.Calls.{stored}
use Rattle.memory.specs.Reach.{writing, Reached, Step}
use Rattle.memory.specs.Up.{cells_up}
use Rattle.cache_lines.specs.Lines.{sets_of}
use Rattle.cache.specs.State.{Standing}
use Rattle.cache_list.specs.Behind.{Behind, call_behind}
use Rattle.span.specs.Runs.{writes_of}
use Rattle.span.specs.Span.{ended, cache_answer}
use Rattle.span.proofs.Goings.{SpanSoFar}
use Rattle.span.proofs.Lengths.{length_writing}
use Rattle.span.proofs.cached.write_cached.Given as goal

-- The runs so far are written, and the others are to be made from what stands behind the cache now.
abbrev pub invariant-loop-run : goal.invariant-loop-run
invariant-loop-run g l =
    let m = g.M.Memory in
    record {
      so_far : SpanSoFar {X = Behind} cache_answer call_behind writing length_writing
          (ended cache_answer call_behind (writes_of l.fn.a l.fn.bytes) (record { cells = m.meaning l.fn.cache.below; state = record { sets = sets_of l.fn.cache.lines; counts = l.fn.cache.counts } }))
          (l.run-end - l.run) l.fn.a l.done (drop l.done l.bytes) (record { cells = m.meaning l.cache.below; state = record { sets = sets_of l.cache.lines; counts = l.cache.counts } });
      cells : cells_up (m.meaning l.cache.below) ≡ stored (cells_up (m.meaning l.fn.cache.below)) l.fn.a (take l.done l.bytes);
      low : l.done ≤ length l.bytes;
      small : l.fn.a + l.done < 2 ^ 64;
      standing : Standing (m.coherent l.cache.below) (m.meaning l.cache.below) (sets_of l.cache.lines) l.cache.counts;
      reached : Reached (Step m.meaning m.coherent m.step) l.fn.cache.below l.cache.below;
    }
