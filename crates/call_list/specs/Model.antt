-- The reference model: a copy of a memory's size and cells, which answers a list of calls by them. Assumes nothing.
-- call_answer m c: acceptance of the call c by the cells m, or the fault that it is refused with
-- buffer_after m c: what its buffer holds then
-- made m c: the record of the call c, once it was made
-- played m cs: the records of the calls cs, once they were made one after another
-- model m cs: the cells after these calls
use Rattle.std.specs.Prelude.{List, [], ◌∷◌, ℕ, length, Some, Result}
use Rattle.memory.specs.declared.fault.Fault.{Fault}
use Rattle.memory.specs.Meaning.{Meaning}
use Rattle.memory.specs.Calls.{read_answer, write_answer, delivered}
use Rattle.memory.specs.Reach.{Call, reading, writing, cells_after, after_calls}
use Rattle.call_list.specs.Record.{Recorded, call_of}

abbrev pub call_answer : Meaning → Call → Result (Unit {0}) Fault
call_answer m (reading a b) = read_answer m a (length b)
call_answer m (writing a bs) = write_answer m a (length bs)

abbrev pub buffer_after : Meaning → Call → List ℕ
buffer_after m (reading a b) = delivered m a b
buffer_after m (writing a bs) = bs

abbrev pub made : Meaning → Recorded → Recorded
made m c = record {
  access = c.access;
  address = c.address;
  buffer = buffer_after m (call_of c);
  reply = Some (call_answer m (call_of c));
}

unfoldable pub played : Meaning → List Recorded → List Recorded
played m [] = []
played m (c ∷ cs) = made m c ∷ played (cells_after m (call_of c)) cs

abbrev pub model : Meaning → List Call → Meaning
model m cs = after_calls cells_after m cs
