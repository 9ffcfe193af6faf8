use Rattle.std.proofs.Common.{◌≡◌, ◌*◌, ◌^◌, ◌≤◌, drop}
use Rattle.records.specs.Column.{plus, total}
use Rattle.records.proofs.column.total.Given as goal

-- What is left brings the whole, and the sum has room.
abbrev pub invariant-loop-reading : goal.invariant-loop-reading
invariant-loop-reading l = (plus l.sum (total (drop l.reading-index l.readings)) ≡ total l.readings) × (l.sum ≤ 2 ^ 32 * l.reading-index)
