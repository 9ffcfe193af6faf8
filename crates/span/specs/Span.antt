-- What calls come to that are made up to the first refused one. Assumes nothing.
-- Ended: the answer of the last call that was made; how many bytes the calls before it were of, or all; and the state that they left
-- later n e: e, after calls of n bytes
-- go_on n x rest r: what follows a call of n bytes, which was answered with r and left x, where `rest` is what the others come to
-- ended answer after cs x: what the calls cs come to from the state x, where `answer` and `after` say what one call does
-- come_to r n x: calls that were answered with r after n bytes and left x
-- window_ended l cs x, cache_ended cs x: what the calls cs come to on an open window, and on a cache
-- behind m t, cache_behind m s k: what stands behind a window, and behind a cache, by its parts
-- filled m a n b: a buffer that held b, once the n bytes of m from a on were read into it
-- window_answer l x c, cache_answer x c: the answer of an open window, and of a cache, to the call c
use Rattle.std.specs.Prelude.{ℕ, ◌+◌, true, List, [], ◌∷◌, ◌++◌, drop, Ok, Err, Result}
use Rattle.memory.specs.declared.fault.Fault.{Fault}
use Rattle.memory.specs.Meaning.{Meaning}
use Rattle.memory.specs.Calls.{bytes}
use Rattle.memory.specs.Up.{cells_up}
use Rattle.memory.specs.Reach.{Call, cells_of}
use Rattle.mapping.specs.Rules.{Layout}
use Rattle.page_table.specs.Walk.{windowed}
use Rattle.call_list.specs.Model.{call_answer}
use Rattle.page_table.specs.declared.tlb.Tlb.{Tlb}
use Rattle.window_list.specs.Played.{Behind, call_behind}
use Rattle.cache_lines.specs.declared.line.CacheLine.{CacheLine}
use Rattle.cache.specs.declared.counts.CacheCounts.{CacheCounts}
use Rattle.cache_list.specs.Behind as cached

pub record Ended (X : Type 0) : Type 0 where
  pub answer : Result (Unit {0}) Fault
  pub done : ℕ
  pub left : X

abbrev pub later : {X : Type 0} → ℕ → Ended X → Ended X
later n e = record { answer = e.answer; done = n + e.done; left = e.left }

abbrev pub go_on : {X : Type 0} → ℕ → X → Ended X → Result (Unit {0}) Fault → Ended X
go_on n x rest (Ok u) = later n rest
go_on n x rest (Err f) = record { answer = Err f; done = 0; left = x }

unfoldable pub ended : {X : Type 0} → (X → Call → Result (Unit {0}) Fault) → (X → Call → X) → List Call → X → Ended X
ended reply after [] x = record { answer = Ok tt; done = 0; left = x }
ended reply after (c ∷ cs) x = go_on (cells_of c) (after x c) (ended reply after cs (after x c)) (reply x c)

abbrev pub window_answer : Layout → Behind → Call → Result (Unit {0}) Fault
window_answer l x c = call_answer (windowed l x.cells) c

abbrev pub cache_answer : cached.Behind → Call → Result (Unit {0}) Fault
cache_answer x c = call_answer (cells_up x.cells) c

abbrev pub filled : Meaning → ℕ → ℕ → List ℕ → List ℕ
filled m a n b = bytes m.cell a n ++ drop n b

abbrev pub come_to : {X : Type 0} → Result (Unit {0}) Fault → ℕ → X → Ended X
come_to r n x = record { answer = r; done = n; left = x }

abbrev pub behind : Meaning → Tlb → Behind
behind m t = record { cells = m; tlb = t }

abbrev pub window_ended : Layout → List Call → Behind → Ended Behind
window_ended l cs x = ended (window_answer l) (call_behind true l) cs x

abbrev pub cache_behind : Meaning → (ℕ → List CacheLine) → CacheCounts → cached.Behind
cache_behind m s k = record { cells = m; state = record { sets = s; counts = k } }

abbrev pub cache_ended : List Call → cached.Behind → Ended cached.Behind
cache_ended cs x = ended cache_answer cached.call_behind cs x
