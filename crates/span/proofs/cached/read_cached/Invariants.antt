use Rattle.std.proofs.Common.{◌≡◌, ◌+◌, ◌-◌, ◌^◌, ◌<◌, ◌≤◌, ◌++◌, length, drop}
use Rattle.memory.specs.Calls.{bytes}
use Rattle.memory.specs.Reach.{reading, Reached, Step}
use Rattle.memory.specs.Up.{cells_up}
use Rattle.cache_lines.specs.Lines.{sets_of}
use Rattle.cache.specs.State.{Standing}
use Rattle.cache_list.specs.Behind.{Behind, call_behind}
use Rattle.span.specs.Runs.{reads_of}
use Rattle.span.specs.Span.{ended, cache_answer}
use Rattle.span.proofs.Goings.{SpanSoFar}
use Rattle.span.proofs.Lengths.{length_reading}
use Rattle.span.proofs.cached.read_cached.Given as goal

-- The runs so far are read, and the others are to be made from what stands behind the cache now.
abbrev pub invariant-loop-run : goal.invariant-loop-run
invariant-loop-run g l =
    let m = g.M.Memory in
    record {
      so_far : SpanSoFar {X = Behind} cache_answer call_behind reading length_reading
          (ended cache_answer call_behind (reads_of l.fn.a l.fn.buffer) (record { cells = m.meaning l.fn.cache.below; state = record { sets = sets_of l.fn.cache.lines; counts = l.fn.cache.counts } }))
          (l.run-end - l.run) l.fn.a l.done (drop l.done l.buffer) (record { cells = m.meaning l.cache.below; state = record { sets = sets_of l.cache.lines; counts = l.cache.counts } });
      filled : l.buffer ≡ bytes (cells_up (m.meaning l.fn.cache.below)).cell l.fn.a l.done ++ drop l.done l.fn.buffer;
      same : m.meaning l.cache.below ≡ m.meaning l.fn.cache.below;
      low : l.done ≤ length l.buffer;
      small : l.fn.a + l.done < 2 ^ 64;
      standing : Standing (m.coherent l.cache.below) (m.meaning l.cache.below) (sets_of l.cache.lines) l.cache.counts;
      reached : Reached (Step m.meaning m.coherent m.step) l.fn.cache.below l.cache.below;
    }
