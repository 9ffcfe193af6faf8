-- Assumes nothing.
use Rattle.std.proofs.Common.{rules}
use Rattle.window_list.proofs.Playing.{list_on_window}
use Rattle.window_list.proofs.list.play_window.Goals as goal

pub returns-clause-played : goal.returns-clause-played
returns-clause-played g c = search (rules, list_on_window)
