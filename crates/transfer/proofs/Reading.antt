-- States that reads alone led to, and calls from there. Assumes nothing.
use Rattle.memory.specs.Reach.{Call, Reached, OnlyRead}
use Rattle.memory.proofs.Reaches.{only_reached, reached_more}

pub read_only_reached : {S : Type 0} (R : S → Call → S → Type 0) {s t u : S} → OnlyRead R s t → Reached R t u → Reached R s u
read_only_reached R p q = reached_more R (only_reached R p) q
