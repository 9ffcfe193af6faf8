-- The worked examples of runs, from the laws of a run. Assumes nothing.
use Rattle.std.proofs.Common.{refl, ◌∙◌, inl, inr, arith}
use Rattle.memory.proofs.Runs.{check_run_bad, check_run_past, check_run_ok}
use Rattle.memory.proofs.Calls.{answer_outside, answer_inside, first_fault_none}
use Rattle.samples.specs.Runs.{RunExamples}

pub run_examples : RunExamples
run_examples = record {
  eight = λ m long bytes.
      answer_inside m 120 8 (check_run_ok m.size 120 8 (omega arith) (omega arith) (omega arith))
      ∙ first_fault_none m.cell 120 8 bytes;
  nine = λ m. answer_outside m 120 9 _ (check_run_bad m.size 120 9 (inr (omega arith)));
  none_at_size = λ m. answer_outside m m.size 0 _ (check_run_bad m.size m.size 0 (inl refl));
  one_at_size = λ m formed.
      answer_outside m m.size 1 _
      (check_run_past m.size m.size 1 (omega arith) (omega (arith, formed.lines)) (omega arith));
  cause_one = refl;
  cause_two = refl;
}
