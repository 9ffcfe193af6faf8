-- What a write keeps, and what two meanings that agree have in common. Assumes nothing.
use Rattle.std.proofs.Common.{◌≡◌, ℕ, zero, suc, ◌-◌, ◌<◌, cond, List, length, get_or, is_ok, Ok, Err, Result, sym, refl, ap, ◌∙◌, subst, ⊎_elim, arith}
use Rattle.std.specs.Result.{result_and}
use Rattle.memory.specs.declared.fault.Fault.{Fault}
use Rattle.memory.specs.Meaning.{Cell, fault, Meaning}
use Rattle.memory.specs.Run.{check_run}
use Rattle.memory.specs.Calls.{cell_answer, value, first_fault, read_answer, write_answer, bytes, delivered, stored, written}
use Rattle.memory.specs.Relation.{Kept, Agree, Agreement}
use Rattle.memory.proofs.Runs.{Taken, run_taken}
use Rattle.memory.proofs.Overlays.{Inside, cases_run}
use Rattle.memory.proofs.Calls.{writes_as_reads}
use Rattle.memory.proofs.Writes.{stored_inside, stored_outside, same_size, accepted_taken, accepted_each}

pub kept_same : (m : Meaning) → Kept m m
kept_same m = record { size = refl; faults = λ i f low e. e; bytes = λ i b low e. (b, e) }

pub kept_more : {m n o : Meaning} → Kept m n → Kept n o → Kept m o
kept_more {m} {n} {o} p q = record {
  size = q.size ∙ p.size;
  faults = λ i f low e. q.faults i f (subst (λ s. i < s) (sym p.size) low) (p.faults i f low e);
  bytes = λ i b low e.
      let c = p.bytes i b low e in
      q.bytes i c.0 (subst (λ s. i < s) (sym p.size) low) c.1;
}

no_fault : (c : Cell) (f : Fault) → cell_answer c ≡ Ok tt → c ≡ fault f → ⊥
no_fault c f ok e = let z : ◌≡◌ {A = ℕ} 0 1 = cc in omega arith

stored_kept : (m : Meaning) (a : ℕ) (bs : List ℕ) → write_answer m a (length bs) ≡ Ok tt → Kept m (stored m a bs)
stored_kept m a bs ok = record {
  size = same_size m a bs;
  faults = λ i f low e.
      ⊎_elim
      (λ run. absurd (no_fault (m.cell i) f (accepted_each m a (length bs) (sym (writes_as_reads m a (length bs)) ∙ ok) i run) e))
      (λ run. stored_outside m a bs i run ∙ e)
      (cases_run a (length bs) i);
  bytes = λ i b low e.
      ⊎_elim
      (λ run. (get_or bs (i - a) 0, stored_inside m a bs i run))
      (λ run. (b, stored_outside m a bs i run ∙ e))
      (cases_run a (length bs) i);
}

written_kept_by : (m : Meaning) (a : ℕ) (bs : List ℕ) (r : Result (Unit {0}) Fault) → write_answer m a (length bs) ≡ r → Kept m (cond (is_ok r) (stored m a bs) m)
written_kept_by m a bs (Ok u) e = stored_kept m a bs e
written_kept_by m a bs (Err f) e = kept_same m

-- no call alters the size, turns a byte into a fault, or a fault into anything else
pub written_kept : (m : Meaning) (a : ℕ) (bs : List ℕ) → Kept m (written m a bs)
written_kept m a bs = written_kept_by m a bs (write_answer m a (length bs)) refl

-- the cells of a run are all that its answer and its bytes depend on
module _ (c d : ℕ → Cell) where
  faults_of_run : (a n : ℕ) → ((i : ℕ) → Inside a n i → c i ≡ d i) → first_fault c a n ≡ first_fault d a n
  unfolding first_fault
  faults_of_run a zero same = refl
  faults_of_run a (suc n) same =
      rw (same a (omega arith, omega arith)) (ap (result_and (cell_answer (d a))) (faults_of_run (suc a) n (λ i run. same i (omega arith, omega arith))))

  bytes_of_run : (a n : ℕ) → ((i : ℕ) → Inside a n i → c i ≡ d i) → bytes c a n ≡ bytes d a n
  unfolding bytes
  bytes_of_run a zero same = refl
  bytes_of_run a (suc n) same =
      let head : value (c a) ≡ value (d a) = ap value (same a (omega arith, omega arith)) in
      let tail = bytes_of_run (suc a) n (λ i run. same i (omega arith, omega arith)) in
      cc

module _ (m n : Meaning) (agree : Agree m n) (a k : ℕ) where
  inside : Taken m.size a k → (i : ℕ) → Inside a k i → m.cell i ≡ n.cell i
  inside run i within_run = agree.cells i (omega arith)

  -- by what the test of the run answers
  reads_by : (r : Result (Unit {0}) Fault) → check_run m.size a k ≡ r → result_and r (first_fault m.cell a k) ≡ result_and r (first_fault n.cell a k)
  reads_by (Ok u) e = faults_of_run m.cell n.cell a k (inside (run_taken m.size a k e))
  reads_by (Err f) e = refl

  pub agree_reads : read_answer m a k ≡ read_answer n a k
  unfolding read_answer
  agree_reads =
      reads_by (check_run m.size a k) refl
      ∙ ap (λ s. result_and (check_run s a k) (first_fault n.cell a k)) agree.size

  pub agree_writes : write_answer m a k ≡ write_answer n a k
  agree_writes = writes_as_reads m a k ∙ agree_reads ∙ sym (writes_as_reads n a k)

module _ (m n : Meaning) (agree : Agree m n) (a : ℕ) where
  delivered_by : (b : List ℕ) (r : Result (Unit {0}) Fault) → read_answer m a (length b) ≡ r → cond (is_ok r) (bytes m.cell a (length b)) b ≡ cond (is_ok r) (bytes n.cell a (length b)) b
  delivered_by b (Ok u) e = bytes_of_run m.cell n.cell a (length b) (inside m n agree a (length b) (accepted_taken m a (length b) e))
  delivered_by b (Err f) e = refl

  pub agree_delivered : (b : List ℕ) → delivered m a b ≡ delivered n a b
  agree_delivered b =
      delivered_by b (read_answer m a (length b)) refl
      ∙ ap (λ r. cond (is_ok r) (bytes n.cell a (length b)) b) (agree_reads m n agree a (length b))

  stored_agree : (bs : List ℕ) → Agree (stored m a bs) (stored n a bs)
  stored_agree bs = record {
    size = same_size m a bs ∙ agree.size ∙ sym (same_size n a bs);
    cells = λ i low.
        ⊎_elim
        (λ run. stored_inside m a bs i run ∙ sym (stored_inside n a bs i run))
        (λ run. stored_outside m a bs i run ∙ agree.cells i (subst (λ s. i < s) (same_size m a bs) low) ∙ sym (stored_outside n a bs i run))
        (cases_run a (length bs) i);
  }

  left_by : (bs : List ℕ) (r : Result (Unit {0}) Fault) → Agree (cond (is_ok r) (stored m a bs) m) (cond (is_ok r) (stored n a bs) n)
  left_by bs (Ok u) = stored_agree bs
  left_by bs (Err f) = agree

  pub agree_left : (bs : List ℕ) → Agree (written m a bs) (written n a bs)
  agree_left bs =
      subst (λ r. Agree (written m a bs) (cond (is_ok r) (stored n a bs) n)) (agree_writes m n agree a (length bs))
      (left_by bs (write_answer m a (length bs)))

pub agreement_holds : Agreement
agreement_holds = record {
  same = λ m. record { size = refl; cells = λ i low. refl };
  back = λ m n p. record { size = sym p.size; cells = λ i low. sym (p.cells i (subst (λ s. i < s) (sym p.size) low)) };
  more = λ m n o p q. record {
    size = p.size ∙ q.size;
    cells = λ i low. p.cells i low ∙ q.cells i (subst (λ s. i < s) p.size low);
  };
  reads = agree_reads;
  writes = agree_writes;
  buffers = agree_delivered;
  left = agree_left;
}
