-- A call of a list, as the definitions take it. Assumes nothing.
-- Recorded: what a call asks, what its buffer holds, and its answer, if it was made
-- recorded c: the record c of a caller's list
-- call_at access a b: the call of this sort at the address a, with a buffer that holds b
-- call_of c, calls_of cs: the call that the record c asks for, and those of a list
use Rattle.std.specs.Prelude.{ℕ, List, map, Option, Result}
use Rattle.memory.specs.declared.access.Access.{Access}
use Rattle.memory.specs.declared.access.Access.TheVariants.{Read, Write}
use Rattle.memory.specs.declared.fault.Fault.{Fault}
use Rattle.memory.specs.Reach.{Call, reading, writing}
use Rattle.call_list.specs.declared.record.CallRecord.{CallRecord}

pub record Recorded : Type 0 where
  pub access : Access
  pub address : ℕ
  pub buffer : List ℕ
  pub reply : Option (Result (Unit {0}) Fault)

abbrev pub recorded : CallRecord → Recorded
recorded c = record { access = c.access; address = c.address; buffer = c.buffer.items; reply = c.answer }

abbrev pub call_at : Access → ℕ → List ℕ → Call
call_at Read a b = reading a b
call_at Write a b = writing a b

abbrev pub call_of : Recorded → Call
call_of c = call_at c.access c.address c.buffer

abbrev pub calls_of : List Recorded → List Call
calls_of cs = map call_of cs
