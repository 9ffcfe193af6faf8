-- Assumes nothing.
use Rattle.memory.proofs.Reaches.{only_read_one}
use Rattle.cache.proofs.fetch.fetch.Goals as goal

pub returns-in-Ok-clause-reads : goal.returns-in-Ok-clause-reads
returns-in-Ok-clause-reads g c = only_read_one _ _ _ (record { cells = c.read.ensures.meaning; kept = c.read.ensures.coherent; step = c.read.ensures.step })

pub returns-in-Err-clause-reads : goal.returns-in-Err-clause-reads
returns-in-Err-clause-reads g c = only_read_one _ _ _ (record { cells = c.read.ensures.meaning; kept = c.read.ensures.coherent; step = c.read.ensures.step })
