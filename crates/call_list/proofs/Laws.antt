-- The law of a list of calls, from the reference model. Assumes nothing.
use Rattle.std.proofs.Common.{◌≡◌, ℕ, zero, suc, ◌+◌, ◌-◌, ◌<◌, ◌⊎◌, inl, inr, ⊎_elim, List, [], ◌∷◌, length, take, get_or, Some, Ok, Err, Result, refl, sym, ap, ◌∙◌, subst, arith}
use Rattle.memory.specs.declared.access.Access.{Access}
use Rattle.memory.specs.declared.access.Access.TheVariants.{Read, Write}
use Rattle.memory.specs.declared.fault.Fault.{Fault}
use Rattle.memory.specs.Meaning.{Cell, byte, Meaning}
use Rattle.memory.specs.Reach.{Call, reading, writing, after_calls, cells_after}
use Rattle.memory.specs.Calls.{read_answer, write_answer, bytes, delivered, stored, written}
use Rattle.memory.proofs.Calls.{cell_answer_byte, get_or_bytes, writes_as_reads, written_accepted, written_refused}
use Rattle.memory.proofs.Overlays.{cases_run}
use Rattle.memory.proofs.Writes.{stored_inside, stored_outside, same_size, stored_answer, accepted_each}
use Rattle.call_list.specs.Record.{Recorded, call_at, call_of, calls_of}
use Rattle.call_list.specs.Model.{call_answer, buffer_after, made, played, model}
use Rattle.call_list.specs.Law.{at, Stores, LastStore, Holds, Answered, ListLaw}
use Rattle.call_list.proofs.Models.{length_after, length_played}

never : {f : Fault} → ◌≡◌ {A = Result (Unit {0}) Fault} (Err f) (Ok tt) → ⊥
never z = absurd cc

not_read : ◌≡◌ {A = Access} Read Write → ⊥
not_read z = absurd cc

not_write : ◌≡◌ {A = Access} Write Read → ⊥
not_write z = absurd cc

-- a call stores its bytes, or it leaves the cells
abbrev Stored : Meaning → Recorded → Type 0
Stored m c = (c.access ≡ Write) × (call_answer m (call_of c) ≡ Ok tt) × (write_answer m c.address (length c.buffer) ≡ Ok tt) × (cells_after m (call_of c) ≡ stored m c.address c.buffer)

abbrev Left : Meaning → Recorded → Type 0
Left m c = (cells_after m (call_of c) ≡ m) × ((c.access ≡ Write) → call_answer m (call_of c) ≡ Ok tt → ⊥)

cases_call : (m : Meaning) (c : Recorded) → Stored m c ⊎ Left m c
cases_call m c = by c.access refl where
  as_write : (r : Result (Unit {0}) Fault) → write_answer m c.address (length c.buffer) ≡ r → c.access ≡ Write → Stored m c ⊎ Left m c
  as_write (Ok u) is sort = inl (sort, ap (λ x. call_answer m (call_at x c.address c.buffer)) sort ∙ is, is, ap (λ x. cells_after m (call_at x c.address c.buffer)) sort ∙ written_accepted m c.address c.buffer is)
  as_write (Err f) is sort = inr (
    ap (λ x. cells_after m (call_at x c.address c.buffer)) sort ∙ written_refused m c.address c.buffer f is,
    λ w ok. never (sym is ∙ sym (ap (λ x. call_answer m (call_at x c.address c.buffer)) sort) ∙ ok),
  )

  by : (x : Access) → c.access ≡ x → Stored m c ⊎ Left m c
  by Read sort = inr (ap (λ x. cells_after m (call_at x c.address c.buffer)) sort, λ w ok. not_read (sym sort ∙ w))
  by Write sort = as_write (write_answer m c.address (length c.buffer)) refl sort

-- no call changes which runs are refused
pub answers_kept : (m : Meaning) (c : Call) (a n : ℕ) → read_answer (cells_after m c) a n ≡ read_answer m a n
answers_kept m (reading b bs) a n = refl
answers_kept m (writing b bs) a n = by (write_answer m b (length bs)) refl where
  by : (r : Result (Unit {0}) Fault) → write_answer m b (length bs) ≡ r → read_answer (written m b bs) a n ≡ read_answer m a n
  by (Ok u) is = ap (λ x. read_answer x a n) (written_accepted m b bs is) ∙ stored_answer m b bs is a n
  by (Err f) is = ap (λ x. read_answer x a n) (written_refused m b bs f is)

size_after : (m : Meaning) (c : Recorded) → (cells_after m (call_of c)).size ≡ m.size
size_after m c =
    ⊎_elim (λ s. ap (λ x. x.size) s.3 ∙ same_size m c.address c.buffer) (λ l. ap (λ x. x.size) l.0) (cases_call m c)

-- meanings that answer every read alike answer every call alike
call_answer_alike : (m n : Meaning) → ((a k : ℕ) → read_answer m a k ≡ read_answer n a k) → (c : Call) → call_answer m c ≡ call_answer n c
call_answer_alike m n same (reading a b) = same a (length b)
call_answer_alike m n same (writing a bs) = writes_as_reads m a (length bs) ∙ same a (length bs) ∙ sym (writes_as_reads n a (length bs))

-- no call changes which calls are refused, or the size
pub model_answer : (m : Meaning) (cs : List Recorded) (a n : ℕ) → read_answer (model m (calls_of cs)) a n ≡ read_answer m a n
unfolding after_calls
model_answer m [] a n = refl
model_answer m (c ∷ cs) a n = model_answer (cells_after m (call_of c)) cs a n ∙ answers_kept m (call_of c) a n

pub model_call_answer : (m : Meaning) (cs : List Recorded) (c : Call) → call_answer (model m (calls_of cs)) c ≡ call_answer m c
model_call_answer m cs c = call_answer_alike (model m (calls_of cs)) m (model_answer m cs) c

model_size : (m : Meaning) (cs : List Recorded) → (model m (calls_of cs)).size ≡ m.size
unfolding after_calls
model_size m [] = refl
model_size m (c ∷ cs) = model_size (cells_after m (call_of c)) cs ∙ size_after m c

stores_as : {m n : Meaning} {c : Recorded} {i : ℕ} → ((a k : ℕ) → read_answer m a k ≡ read_answer n a k) → Stores m c i → Stores n c i
stores_as {m} {n} {c} same h = record { access = h.access; accepted = sym (call_answer_alike m n same (call_of c)) ∙ h.accepted; from = h.from; below = h.below }

-- the cell after one call
cell_after : (m : Meaning) (c : Recorded) (i : ℕ) → (Stores m c i × ((cells_after m (call_of c)).cell i ≡ byte (get_or c.buffer (i - c.address) 0))) ⊎ ((Stores m c i → ⊥) × ((cells_after m (call_of c)).cell i ≡ m.cell i))
cell_after m c i = ⊎_elim stores leaves (cases_call m c) where
  stores : Stored m c → (Stores m c i × ((cells_after m (call_of c)).cell i ≡ byte (get_or c.buffer (i - c.address) 0))) ⊎ ((Stores m c i → ⊥) × ((cells_after m (call_of c)).cell i ≡ m.cell i))
  stores s = ⊎_elim
      (λ run. inl (record { access = s.0; accepted = s.1; from = run.0; below = run.1 }, ap (λ x. x.cell i) s.3 ∙ stored_inside m c.address c.buffer i run))
      (λ run. inr (λ h. ⊎_elim (λ low. omega (arith, h.from)) (λ high. omega (arith, h.below)) run, ap (λ x. x.cell i) s.3 ∙ stored_outside m c.address c.buffer i run))
      (cases_run c.address (length c.buffer) i)

  leaves : Left m c → (Stores m c i × ((cells_after m (call_of c)).cell i ≡ byte (get_or c.buffer (i - c.address) 0))) ⊎ ((Stores m c i → ⊥) × ((cells_after m (call_of c)).cell i ≡ m.cell i))
  leaves l = inr (λ h. l.1 h.access h.accepted, ap (λ x. x.cell i) l.0)

module _ (m : Meaning) (c : Recorded) (cs : List Recorded) (i : ℕ) where
  n : Meaning
  n = cells_after m (call_of c)

  back : (a k : ℕ) → read_answer (cells_after m (call_of c)) a k ≡ read_answer m a k
  back = answers_kept m (call_of c)

  forth : (a k : ℕ) → read_answer m a k ≡ read_answer (cells_after m (call_of c)) a k
  forth a k = sym (answers_kept m (call_of c) a k)

  past : (k : ℕ) → ((j : ℕ) → k < j → j < length cs → Stores (cells_after m (call_of c)) (at cs j) i → ⊥) → (j : ℕ) → suc k < j → j < length (c ∷ cs) → Stores m (at (c ∷ cs) j) i → ⊥
  past k none zero low high h = omega arith
  past k none (suc j) low high h = none j (omega arith) (omega arith) (stores_as forth h)

  tail : ((j : ℕ) → j < length cs → Stores (cells_after m (call_of c)) (at cs j) i → ⊥) → (j : ℕ) → 0 < j → j < length (c ∷ cs) → Stores m (at (c ∷ cs) j) i → ⊥
  tail none zero low high h = omega arith
  tail none (suc j) low high h = none j (omega arith) (stores_as forth h)

  all : (Stores m c i → ⊥) → ((j : ℕ) → j < length cs → Stores (cells_after m (call_of c)) (at cs j) i → ⊥) → (j : ℕ) → j < length (c ∷ cs) → Stores m (at (c ∷ cs) j) i → ⊥
  all here none zero high h = here h
  all here none (suc j) high h = none j (omega arith) (stores_as forth h)

  -- what holds of the cell x after the later calls holds of it after all
  holds_more : (x : Cell) → Holds (cells_after m (call_of c)) cs i x → Holds m (c ∷ cs) i x
  holds_more x = ⊎_elim later first where
    later : ((k : ℕ) × LastStore (cells_after m (call_of c)) cs i k × (x ≡ byte (get_or (at cs k).buffer (i - (at cs k).address) 0))) → Holds m (c ∷ cs) i x
    later l = inl (suc l.0, record { inside = omega (arith, l.1.inside); stores = stores_as back l.1.stores; latest = past l.0 l.1.latest }, l.2)

    first : (((k : ℕ) → k < length cs → Stores (cells_after m (call_of c)) (at cs k) i → ⊥) × (x ≡ (cells_after m (call_of c)).cell i)) → Holds m (c ∷ cs) i x
    first none = ⊎_elim
        (λ here. inl (0, record { inside = omega arith; stores = here.0; latest = tail none.0 }, none.1 ∙ here.1))
        (λ here. inr (all here.0 none.0, none.1 ∙ here.1))
        (cell_after m c i)

pub model_holds : (m : Meaning) (cs : List Recorded) (i : ℕ) → Holds m cs i ((model m (calls_of cs)).cell i)
unfolding after_calls
model_holds m [] i = inr (λ k low h. omega arith, refl)
model_holds m (c ∷ cs) i = holds_more m c cs i _ (model_holds (cells_after m (call_of c)) cs i)

played_at : (m : Meaning) (cs : List Recorded) (k : ℕ) → k < length cs → at (played m cs) k ≡ made (model m (calls_of (take k cs))) (at cs k)
unfolding played after_calls
played_at m [] k low = absurd (omega arith)
played_at m (c ∷ cs) zero low = refl
played_at m (c ∷ cs) (suc k) low = played_at (cells_after m (call_of c)) cs k (omega arith)

refused_buffer : (m : Meaning) (access : Access) (a : ℕ) (b : List ℕ) (f : Fault) → call_answer m (call_at access a b) ≡ Err f → buffer_after m (call_at access a b) ≡ b
refused_buffer m Read a b f e = rw e
refused_buffer m Write a b f e = refl

read_buffer : (m : Meaning) (a : ℕ) (b : List ℕ) → read_answer m a (length b) ≡ Ok tt → delivered m a b ≡ bytes m.cell a (length b)
read_buffer m a b ok = rw ok

-- a call answers by the cells at the start, and brings what they hold at its place in the list
answered : (m : Meaning) (before : List Recorded) (c : Recorded) → Answered m before c (made (model m (calls_of before)) c)
answered m before c = record {
  access = refl;
  address = refl;
  answer = ap Some (model_call_answer m before (call_of c));
  long = length_after n c.access c.address c.buffer;
  write = λ sort. ap (λ x. buffer_after n (call_at x c.address c.buffer)) sort;
  refused = λ f e. refused_buffer n c.access c.address c.buffer f (model_call_answer m before (call_of c) ∙ e);
  read = λ sort ok i low.
      let good : read_answer n c.address (length c.buffer) ≡ Ok tt =
      sym (ap (λ x. call_answer n (call_at x c.address c.buffer)) sort) ∙ model_call_answer m before (call_of c) ∙ ok in
      let is : n.cell (c.address + i) ≡ byte (get_or (buffer_after n (call_of c)) i 0) =
      cell_answer_byte (n.cell (c.address + i)) (accepted_each n c.address (length c.buffer) good (c.address + i) (omega arith, omega arith))
      ∙ ap byte (sym (get_or_bytes n.cell c.address (length c.buffer) i low))
      ∙ ap (λ x. byte (get_or x i 0)) (sym (ap (λ x. buffer_after n (call_at x c.address c.buffer)) sort ∙ read_buffer n c.address c.buffer good)) in
      subst (Holds m before (c.address + i)) is (model_holds m before (c.address + i));
} where
  n : Meaning
  n = model m (calls_of before)

pub list_law : (m : Meaning) (cs : List Recorded) → ListLaw m cs (played m cs) (model m (calls_of cs))
list_law m cs = record {
  count = length_played m cs;
  calls = λ k low. subst (Answered m (take k cs) (at cs k)) (sym (played_at m cs k low)) (answered m (take k cs) (at cs k));
  size = model_size m cs;
  cells = model_holds m cs;
}
