use Rattle.std.proofs.Common.{◌≡◌, ◌^◌, ◌<◌, drop}
use Rattle.prices.specs.Prices.{said}
use Rattle.prices.proofs.list.value_of.Given as goal

-- The value so far, with the bytes that are left, brings the whole.
abbrev pub invariant-loop-digit : goal.invariant-loop-digit
invariant-loop-digit l = (said l.value (drop l.digit-index l.line) ≡ said 0 l.line) × (l.value < 2 ^ 32)
