-- Assumes nothing.
use Rattle.std.proofs.Common.{rules}
use Rattle.call_list.proofs.Playing.{playing_next}
use Rattle.call_list.proofs.list.play.Goals as goal

pub loop-call-preserved : goal.loop-call-preserved
loop-call-preserved g c = search (rules, playing_next)
