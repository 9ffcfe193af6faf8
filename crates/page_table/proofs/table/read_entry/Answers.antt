-- Assumes nothing.
use Rattle.memory.proofs.Reaches.{only_read_one}
use Rattle.page_table.proofs.table.read_entry.Goals as goal

pub returns-in_err-map_err-clause-reads : goal.returns-in_err-map_err-clause-reads
returns-in_err-map_err-clause-reads g c = only_read_one g.M.Memory.step _ _ c.read.ensures.step

pub returns-clause-reads : goal.returns-clause-reads
returns-clause-reads g c = only_read_one g.M.Memory.step _ _ c.read.ensures.step
