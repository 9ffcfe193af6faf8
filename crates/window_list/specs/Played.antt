-- What a list of calls on a window comes to. Assumes nothing.
-- Behind: what stands behind a window: the cells of the memory below, and the TLB
-- call_behind is_open l x c: x after the call c
-- behind_after is_open l x cs: x after the calls cs
-- StateAfter meaning R is_open l s h cs k t: the memory below and the TLB after the first k of the calls cs, which led from s and h to t
-- PlayedThrough meaning R is_open l s t h i cs ds: the calls of cs, made through a window, came back as ds, and led the memory below
-- from s to t, each step by its own relation R, and the TLB from h to i
-- WindowPlayed armed layout meaning coherent R v w cs ds: the same of a window that was v and is w, which is as coherent as it was
use Rattle.std.specs.Prelude.{◌≡◌, ℕ, ◌≤◌, Bool, true, cond, is_ok, List, length, take}
use Rattle.memory.specs.Meaning.{Meaning}
use Rattle.memory.specs.Reach.{Call, Reached, after_calls}
use Rattle.mapping.specs.Rules.{Layout}
use Rattle.page_table.specs.declared.tlb.Tlb.{Tlb}
use Rattle.page_table.specs.Walk.{shown}
use Rattle.window.specs.declared.window.Window.{Window}
use Rattle.window.specs.State.{Standing}
use Rattle.transfer.specs.Call.{below_called, tlb_called}
use Rattle.call_list.specs.Record.{Recorded, calls_of}
use Rattle.call_list.specs.Model.{played, model}
use Rattle.call_list.specs.Law.{ListLaw}
use Rattle.window_list.specs.Effect.{ListEffect}

pub record Behind : Type 0 where
  pub cells : Meaning
  pub tlb : Tlb

-- a call on a shut window leaves both
abbrev pub call_behind : Bool → Layout → Behind → Call → Behind
call_behind is_open l x c = cond is_open (record { cells = below_called l x.cells c; tlb = tlb_called l x.cells c x.tlb }) x

abbrev pub behind_after : Bool → Layout → Behind → List Call → Behind
behind_after is_open l x cs = after_calls (call_behind is_open l) x cs

pub record StateAfter {S : Type 0} (meaning : S → Meaning) (R : S → Call → S → Type 0) (is_open : Bool) (l : Layout) (s : S) (h : Tlb) (cs : List Call) (k : ℕ) (t : S) : Type 0 where
  pub below : S
  pub tlb : Tlb
  -- the size and the cells of the window are those of the reference model
  pub cells : shown is_open l (meaning below) ≡ model (shown is_open l (meaning s)) (take k cs)
  pub behind : record { cells = meaning below; tlb = tlb } ≡ behind_after is_open l (record { cells = meaning s; tlb = h }) (take k cs)
  pub before : Reached R s below
  pub after : Reached R below t

pub record PlayedThrough {S : Type 0} (meaning : S → Meaning) (R : S → Call → S → Type 0) (is_open : Bool) (l : Layout) (s t : S) (h i : Tlb) (cs ds : List Recorded) : Type 0 where
  -- every answer and buffer is the reference model's; so are size and cells after every call, the last one too
  pub calls : ds ≡ played (shown is_open l (meaning s)) cs
  pub every : (k : ℕ) → k ≤ length cs → StateAfter meaning R is_open l s h (calls_of cs) k t
  pub cells : shown is_open l (meaning t) ≡ model (shown is_open l (meaning s)) (calls_of cs)
  -- the same without going through the list
  pub law : ListLaw (shown is_open l (meaning s)) cs ds (shown is_open l (meaning t))
  -- what the calls leave below, and of the TLB
  pub behind : record { cells = meaning t; tlb = i } ≡ behind_after is_open l (record { cells = meaning s; tlb = h }) (calls_of cs)
  pub reached : Reached R s t
  pub effect : is_open ≡ true → ListEffect l (meaning s) (meaning t) (calls_of cs)

pub record WindowPlayed {P S Q : Type 0} (armed : P → Type 0) (layout : P → Layout) (meaning : S → Meaning) (coherent : S → Type 0) (R : S → Call → S → Type 0) (v w : Window P S Q) (cs ds : List Recorded) : Type 0 where
  pub list : PlayedThrough meaning R (is_ok v.opening) (layout v.mapping) v.below w.below v.tlb w.tlb cs ds
  pub mapping : w.mapping ≡ v.mapping
  pub opening : w.opening ≡ v.opening
  pub standing : Standing (armed w.mapping) (coherent w.below) (is_ok w.opening) (layout w.mapping) (meaning w.below) w.tlb
