-- Which lines are held after a list of calls, which of them are prefetched, and which was kept last in its set, by the calls that brought
-- this about and those that ended it. Assumes nothing.
-- ReadOf n x c: the call c, made on x, is a read past causes 1 and 2, and its run lies in the line n
-- Held n x, IsPrefetched n x: the line n is held in x; it is held, and prefetched
-- Newest n x: of the lines that are held in its set it was kept last
-- Misses n x c: c is a miss of the line n, which is accepted as a whole
-- Prefetches n x c: c prefetches the line n, which is accepted: the one after a line that c misses, or hits for the first time
-- Keeps n x c, Drops n x c: c keeps the line n; drops it
-- Covers n x c: c keeps another line of its set
-- PushesOut n x c: for that line it leaves
-- Leaves n x c: it is dropped or pushed out
-- Uncovers n x c: c drops the line that was kept last in its set, and it is the other one
-- CallAt Sort x cs i: the call at the index i of cs, which are made on x one after the other, is of that sort
-- Stays Ends x cs i k: no call of the sort Ends stands at the index i or after it, and before k
-- Since P Begins Ends x cs k: P held of x, or a call before k was of the sort Begins, and since then none before k was of the sort Ends
-- LawOf P Begins Ends x cs: after the first calls, and after all, P holds just if this does
-- HeldLaw x cs: these laws of lines that are held, prefetched, and kept last
use Rattle.std.specs.Prelude.{◌≡◌, ℕ, ◌+◌, ◌/◌, ◌%◌, ◌<◌, ◌≤◌, ◌≢◌, true, ◌⊎◌, ◌↔◌, List, length, take, slice_get, is_some, Some, Ok}
use Rattle.memory.specs.Run.{check_run}
use Rattle.memory.specs.Reach.{Call, reading, writing}
use Rattle.memory.specs.Calls.{write_answer}
use Rattle.cache_lines.specs.Lines.{find, held_line}
use Rattle.cache.specs.Rules.{whole_line, first_hit}
use Rattle.cache_list.specs.Behind.{Behind, behind_after}

abbrev pub ReadOf : ℕ → Behind → Call → Type 0
ReadOf n x (reading a b) = (check_run x.cells.size a (length b) ≡ Ok tt) × (a / 128 ≡ n)
ReadOf n x (writing a bs) = ⊥

abbrev pub Held : ℕ → Behind → Type 0
Held n x = is_some (held_line n x.state.sets) ≡ true

abbrev pub IsPrefetched : ℕ → Behind → Type 0
IsPrefetched n x = first_hit n x.state.sets ≡ Some true

abbrev pub Newest : ℕ → Behind → Type 0
Newest n x = is_some (find n (take 1 (x.state.sets (n % 8)))) ≡ true

pub record Misses (n : ℕ) (x : Behind) (c : Call) : Type 0 where
  pub read : ReadOf n x c
  pub absent : Held n x → ⊥
  pub accepted : whole_line x.cells n ≡ true

pub record Prefetches (n : ℕ) (x : Behind) (c : Call) : Type 0 where
  pub before : ℕ
  pub next : n ≡ before + 1
  pub read : ReadOf before x c
  pub cause : Misses before x c ⊎ IsPrefetched before x
  pub absent : Held n x → ⊥
  pub accepted : whole_line x.cells n ≡ true

abbrev pub Keeps : ℕ → Behind → Call → Type 0
Keeps n x c = Misses n x c ⊎ Prefetches n x c

-- an accepted write drops the line that its run lies in
abbrev pub Drops : ℕ → Behind → Call → Type 0
Drops n x (reading a b) = ⊥
Drops n x (writing a bs) = (write_answer x.cells a (length bs) ≡ Ok tt) × (a / 128 ≡ n)

pub record Covers (n : ℕ) (x : Behind) (c : Call) : Type 0 where
  pub other : ℕ
  pub keeps : Keeps other x c
  pub apart : other ≢ n
  pub same_set : other % 8 ≡ n % 8

-- of the two lines of a set the older one leaves
abbrev pub PushesOut : ℕ → Behind → Call → Type 0
PushesOut n x c = Covers n x c × (Newest n x → ⊥)

abbrev pub Leaves : ℕ → Behind → Call → Type 0
Leaves n x c = Drops n x c ⊎ PushesOut n x c

pub record Uncovers (n : ℕ) (x : Behind) (c : Call) : Type 0 where
  pub other : ℕ
  pub held : Held n x
  pub newest : Newest other x
  pub drops : Drops other x c
  pub apart : other ≢ n
  pub same_set : other % 8 ≡ n % 8

pub record CallAt (Sort : Behind → Call → Type 0) (x : Behind) (cs : List Call) (i : ℕ) : Type 0 where
  pub call : Call
  pub at : slice_get cs i ≡ Some call
  pub sort : Sort (behind_after x (take i cs)) call

abbrev pub Stays : (Behind → Call → Type 0) → Behind → List Call → ℕ → ℕ → Type 0
Stays Ends x cs i k = (j : ℕ) → i ≤ j → j < k → CallAt Ends x cs j → ⊥

abbrev pub Since : (Behind → Type 0) → (Behind → Call → Type 0) → (Behind → Call → Type 0) → Behind → List Call → ℕ → Type 0
Since P Begins Ends x cs k = (P x × Stays Ends x cs 0 k) ⊎ ((i : ℕ) × (i < k) × CallAt Begins x cs i × Stays Ends x cs (i + 1) k)

-- it was held at the start, or a call kept it, and it has not left since
abbrev pub HeldSince : ℕ → Behind → List Call → ℕ → Type 0
HeldSince n x cs k = Since (Held n) (Keeps n) (Leaves n) x cs k

abbrev pub LawOf : (Behind → Type 0) → (Behind → Call → Type 0) → (Behind → Call → Type 0) → Behind → List Call → Type 0
LawOf P Begins Ends x cs = (k : ℕ) → k ≤ length cs → P (behind_after x (take k cs)) ↔ Since P Begins Ends x cs k

pub record HeldLaw (x : Behind) (cs : List Call) : Type 0 where
  pub held : (n : ℕ) → LawOf (Held n) (Keeps n) (Leaves n) x cs
  -- a prefetch kept it, and since then it neither was read nor has left
  pub prefetched : (n : ℕ) → LawOf (IsPrefetched n) (Prefetches n) (λ y c. ReadOf n y c ⊎ Leaves n y c) x cs
  -- it was kept, or is what a drop left of its set, and since then it neither was dropped nor was another line kept
  pub newest : (n : ℕ) → LawOf (Newest n) (λ y c. Keeps n y c ⊎ Uncovers n y c) (λ y c. Drops n y c ⊎ Covers n y c) x cs
