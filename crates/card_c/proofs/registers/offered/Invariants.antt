use Rattle.std.proofs.Common.{◌≡◌, ◌≤◌, ◌++◌, length, take, drop}
use Rattle.card_c.specs.Setup.{offered}
use Rattle.card_c.proofs.registers.offered.Given as goal

-- The writes so far, and what the values from here on ask for, are what all of them ask for.
abbrev pub invariant-loop-number : goal.invariant-loop-number
invariant-loop-number l = record {
  whole : offered 0 l.registers ≡ take l.count l.writes ++ offered l.number (drop l.number l.registers);
  few : l.count ≤ l.number;
  room : length l.writes ≡ 5;
}
