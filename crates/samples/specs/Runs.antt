-- Worked examples of runs. Assumes nothing.
-- run_answers: what the test of a run answers at the end of a line, and at the size, of 1,024 cells
-- RunExamples: at the end of a line, and at the size, of every well-formed memory
use Rattle.std.specs.Prelude.{◌≡◌, ℕ, ◌<◌, ◌≤◌, Ok, Err}
use Rattle.samples.specs.declared.examples.RunAnswers.{RunAnswers}
use Rattle.memory.specs.declared.fault.Cause.TheVariants.{BadRun, PastEnd}
use Rattle.memory.specs.Fault.{cause_number, here}
use Rattle.memory.specs.Meaning.{Meaning, WellFormed}
use Rattle.memory.specs.Calls.{cell_answer, read_answer}

abbrev pub run_answers : RunAnswers
run_answers = record {
  eight = Ok tt;
  nine = Err (here BadRun 120);
  none = Err (here BadRun 1024);
  one = Err (here PastEnd 1024);
}

pub record RunExamples : Type 0 where
  -- a run of 8 at 120 passes, where its own eight cells are bytes
  pub eight : (m : Meaning) → 128 ≤ m.size → ((i : ℕ) → 120 ≤ i → i < 128 → cell_answer (m.cell i) ≡ Ok tt) → read_answer m 120 8 ≡ Ok tt
  -- a run of 9 at 120 does not fit the line
  pub nine : (m : Meaning) → read_answer m 120 9 ≡ Err (here BadRun 120)
  -- at the size, a run of 0 is refused with cause 1, and a run of 1 with cause 2
  pub none_at_size : (m : Meaning) → read_answer m m.size 0 ≡ Err (here BadRun m.size)
  pub one_at_size : (m : Meaning) → WellFormed m → read_answer m m.size 1 ≡ Err (here PastEnd m.size)
  pub cause_one : cause_number BadRun ≡ 1
  pub cause_two : cause_number PastEnd ≡ 2
