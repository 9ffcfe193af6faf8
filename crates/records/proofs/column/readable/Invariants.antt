use Rattle.std.proofs.Common.{◌≡◌, ◌≤◌, drop}
use Rattle.std.specs.Prelude.{count_by, is_ok, ◌+◌}
use Rattle.records.proofs.column.readable.Given as goal

-- What is left brings the whole, and the count has room.
abbrev pub invariant-loop-reading : goal.invariant-loop-reading
invariant-loop-reading l = (l.count + count_by is_ok (drop l.reading-index l.readings) ≡ count_by is_ok l.readings) × (l.count ≤ l.reading-index)
