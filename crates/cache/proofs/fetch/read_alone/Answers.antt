-- Assumes nothing.
use Rattle.memory.proofs.Reaches.{only_read_one}
use Rattle.cache.proofs.fetch.read_alone.Goals as goal

pub returns-clause-reads : goal.returns-clause-reads
returns-clause-reads g c = only_read_one _ _ _ (record { cells = c.read.ensures.meaning; kept = c.read.ensures.coherent; step = c.read.ensures.step })
