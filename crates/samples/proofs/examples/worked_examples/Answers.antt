-- Assumes nothing.
use Rattle.samples.proofs.CacheExamples.{cache_examples}
use Rattle.samples.proofs.EntryExamples.{entry_examples}
use Rattle.samples.proofs.MappingExamples.{mapping_examples}
use Rattle.samples.proofs.RunExamples.{run_examples}
use Rattle.samples.proofs.examples.worked_examples.Goals as goal

pub returns-clause-runs : goal.returns-clause-runs
returns-clause-runs c = run_examples

pub returns-clause-mappings : goal.returns-clause-mappings
returns-clause-mappings c = mapping_examples

pub returns-clause-entries : goal.returns-clause-entries
returns-clause-entries c = entry_examples

pub returns-clause-caches : goal.returns-clause-caches
returns-clause-caches c = cache_examples
