-- The examples hold: each side computes to the same value. Assumes nothing.
use Rattle.std.proofs.Common.{refl}
use Rattle.samples.specs.Entries.{EntryExamples}

pub entry_examples : EntryExamples
entry_examples = record {
  live = refl;
  stands = λ s v. refl;
  read = refl;
  write = refl;
  still_live = refl;
  out = λ s v. refl;
  none = λ s v. refl;
  cause_four = refl;
  cause_five = refl;
  three_fills = refl;
}
