-- A list of calls, call by call. Assumes nothing.
use Rattle.std.proofs.Common.{◌≡◌, ℕ, suc, Bool, true, false, cond, List, [], ◌∷◌, ◌++◌, length, is_ok, Some, Result, refl, sym, ap, ◌∙◌}
use Rattle.std.specs.Vec.{with_items}
use Rattle.std.proofs.lemmas.List.{with_items_is}
use Rattle.memory.specs.declared.access.Access.{Access}
use Rattle.memory.specs.declared.access.Access.TheVariants.{Read, Write}
use Rattle.memory.specs.declared.fault.Fault.{Fault}
use Rattle.memory.specs.Meaning.{Meaning}
use Rattle.memory.specs.Reach.{Call, after_calls, cells_after}
use Rattle.memory.specs.Calls.{read_answer, bytes, delivered}
use Rattle.memory.proofs.Calls.{length_bytes}
use Rattle.call_list.specs.declared.record.CallRecord.{CallRecord}
use Rattle.call_list.specs.Record.{Recorded, recorded, call_at, call_of, calls_of}
use Rattle.call_list.specs.Model.{call_answer, buffer_after, made, played, model}

pub length_delivered : (m : Meaning) (a : ℕ) (b : List ℕ) → length (delivered m a b) ≡ length b
length_delivered m a b = by (is_ok (read_answer m a (length b))) where
  by : (t : Bool) → length (cond t (bytes m.cell a (length b)) b) ≡ length b
  by true = length_bytes m.cell a (length b)
  by false = refl

pub length_after : (m : Meaning) (access : Access) (a : ℕ) (b : List ℕ) → length (buffer_after m (call_at access a b)) ≡ length b
length_after m Read a b = length_delivered m a b
length_after m Write a b = refl

-- a record, once its call was made
pub made_is : (m : Meaning) (c : CallRecord) (r : Result (Unit {0}) Fault) (b : List ℕ) → r ≡ call_answer m (call_at c.access c.address c.buffer.items) → b ≡ buffer_after m (call_at c.access c.address c.buffer.items) → recorded (record { access = c.access; address = c.address; buffer = with_items c.buffer b; answer = Some r }) ≡ made m (recorded c)
made_is m c r b answered left =
    let whole : (with_items c.buffer b).items ≡ buffer_after m (call_at c.access c.address c.buffer.items) =
    with_items_is c.buffer b (ap length left ∙ length_after m c.access c.address c.buffer.items ∙ sym c.buffer.ok.0) ∙ left in
    λ i. record { access = c.access; address = c.address; buffer = whole i; reply = Some (answered i) }

pub model_push : (m : Meaning) (cs : List Call) (c : Call) → model m (cs ++ (c ∷ [])) ≡ cells_after (model m cs) c
unfolding after_calls
model_push m [] c = refl
model_push m (d ∷ cs) c = model_push (cells_after m d) cs c

pub played_push : (m : Meaning) (cs : List Recorded) (c : Recorded) → played m (cs ++ (c ∷ [])) ≡ played m cs ++ (made (model m (calls_of cs)) c ∷ [])
unfolding played after_calls
played_push m [] c = refl
played_push m (d ∷ cs) c = ap (λ xs. made m d ∷ xs) (played_push (cells_after m (call_of d)) cs c)

pub length_played : (m : Meaning) (cs : List Recorded) → length (played m cs) ≡ length cs
unfolding played
length_played m [] = refl
length_played m (c ∷ cs) = ap suc (length_played (cells_after m (call_of c)) cs)
