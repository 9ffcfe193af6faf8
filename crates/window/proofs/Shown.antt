-- What a call leaves of a window, open or shut. Assumes nothing.
use Rattle.std.proofs.Common.{◌≡◌, ℕ, Bool, true, false, cond, List, length, Ok, Err, Result, sym, refl, ap, ◌∙◌, subst, arith}
use Rattle.std.proofs.lemmas.Bool.{false≢true}
use Rattle.memory.specs.declared.fault.Fault.{Fault}
use Rattle.memory.specs.Meaning.{Meaning}
use Rattle.memory.specs.Run.{check_run}
use Rattle.memory.specs.Reach.{Call}
use Rattle.memory.specs.Calls.{read_answer, write_answer, delivered, written}
use Rattle.memory.proofs.Calls.{answer_outside, written_refused}
use Rattle.memory.proofs.Runs.{run_taken}
use Rattle.mapping.specs.Rules.{Layout}
use Rattle.page_table.specs.declared.tlb.Tlb.{Tlb}
use Rattle.page_table.specs.Ready.{Ready}
use Rattle.page_table.specs.Walk.{shut, shown}
use Rattle.transfer.specs.Effect.{Effect}
use Rattle.transfer.specs.Call.{below_called, tlb_called}
use Rattle.transfer.proofs.Effects.{effect_of}
use Rattle.transfer.proofs.Counting.{count_of}
use Rattle.transfer.proofs.Outside.{delivered_outside, write_outside}
use Rattle.window.specs.State.{Called}

-- what a call leaves, with the laws that follow
pub called : {Same Reach : Type 0} → Same → Reach → (is_open : Bool) (l : Layout) (m n : Meaning) (h i : Tlb) (c : Call) → (is_open ≡ true → Ready l m h) → n ≡ cond is_open (below_called l m c) m → i ≡ cond is_open (tlb_called l m c h) h → Called Same Reach is_open l m n h i c
called same reach true l m n h i c ready below tlb = record {
  same = same;
  reached = reach;
  below = below;
  tlb = tlb;
  effect = λ open1. subst (λ x. Effect l m x c) (sym below) (effect_of l m h (ready refl) c);
  count = λ open1. ap (λ t. t.lookups) tlb ∙ count_of l m h (ready refl).steady c;
}
called same reach false l m n h i c ready below tlb = record {
  same = same;
  reached = reach;
  below = below;
  tlb = tlb;
  effect = λ open1. absurd (false≢true open1);
  count = λ open1. absurd (false≢true open1);
}

-- no run fits a memory without cells
no_run_by : (a n : ℕ) (r : Result (Unit {0}) Fault) → check_run 0 a n ≡ r → (f : Fault) × (check_run 0 a n ≡ Err f)
no_run_by a n (Err f) e = (f, e)
no_run_by a n (Ok tt) e = let t = run_taken 0 a n e in let some = t.some in let inside = t.inside in absurd (omega arith)

no_run : (a n : ℕ) → (f : Fault) × (check_run 0 a n ≡ Err f)
no_run a n = no_run_by a n (check_run 0 a n) refl

-- what a shut window answers, and that it changes nothing
module _ (l : Layout) (m : Meaning) (a : ℕ) where
  pub shut_answer : (is_open : Bool) → is_open ≡ false → (n : ℕ) → check_run 0 a n ≡ read_answer (shown is_open l m) a n
  shut_answer true is n = absurd (false≢true (sym is))
  shut_answer false is n = let r = no_run a n in r.1 ∙ sym (answer_outside shut a n r.0 r.1)

  pub shut_write_answer : (is_open : Bool) → is_open ≡ false → (n : ℕ) → check_run 0 a n ≡ write_answer (shown is_open l m) a n
  shut_write_answer true is n = absurd (false≢true (sym is))
  shut_write_answer false is n = let r = no_run a n in r.1 ∙ sym (write_outside shut a r.0 n r.1)

  pub shut_delivered : (is_open : Bool) → is_open ≡ false → (b : List ℕ) → b ≡ delivered (shown is_open l m) a b
  shut_delivered true is b = absurd (false≢true (sym is))
  shut_delivered false is b = let r = no_run a (length b) in delivered_outside shut a r.0 b r.1

  pub shut_written : (is_open : Bool) → is_open ≡ false → (bs : List ℕ) → shown is_open l m ≡ written (shown is_open l m) a bs
  shut_written true is bs = absurd (false≢true (sym is))
  shut_written false is bs = let r = no_run a (length bs) in sym (written_refused shut a bs r.0 (write_outside shut a r.0 (length bs) r.1))

pub shut_called : {Same Reach : Type 0} → Same → Reach → (is_open : Bool) → is_open ≡ false → (l : Layout) (m : Meaning) (h : Tlb) (c : Call) → Called Same Reach is_open l m m h h c
shut_called same reach true is l m h c = absurd (false≢true (sym is))
shut_called same reach false is l m h c = called same reach false l m m h h c (λ open1. absurd (false≢true open1)) refl refl
