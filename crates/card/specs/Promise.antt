-- What a window over a memory is promised to do, from its registers to its closing. Assumes nothing.
-- opening_of l m board: what the opening answers, over the memory m with a board of so many bytes
-- image l m board n: the size and the cells of the window so opened, over the memory n
-- Promise meaning R number l board s t report cs ds: a window was opened by the layout l over a memory in the state s, played the list cs,
-- which came back as ds, was reported on, and left the memory in the state t
-- Ran meaning R number values board s t outcome cs ds: the same, if the registers armed with these values; nothing, if they were refused
use Rattle.std.specs.Prelude.{◌≡◌, ℕ, ◌<◌, ◌≤◌, true, ◌⊎◌, Decides, is_ok, List, length, Ok, Err, Result}
use Rattle.memory.specs.Meaning.{Meaning}
use Rattle.memory.specs.Reach.{Call, Writes, Reached}
use Rattle.mapping.specs.Rules.{Rules, Layout, layout_of}
use Rattle.page_table.specs.declared.entry.Entry.{Entry}
use Rattle.page_table.specs.declared.tlb.Tlb.{Tlb}
use Rattle.page_table.specs.Tlb.{empty_tlb}
use Rattle.page_table.specs.Table.{table_of, entry_address, entry_read}
use Rattle.page_table.specs.Class.{SameTable}
use Rattle.page_table.specs.Walk.{shown}
use Rattle.opening.specs.declared.reason.OpeningRefusal.{OpeningRefusal}
use Rattle.opening.specs.Opening.{check_opening, Openable}
use Rattle.transfer.specs.Effect.{StandsThere, MarksThere}
use Rattle.window.specs.declared.report.WindowReport.{WindowReport}
use Rattle.window.specs.Report.{reported}
use Rattle.call_list.specs.Record.{Recorded, calls_of}
use Rattle.call_list.specs.Model.{played, model}
use Rattle.call_list.specs.Law.{ListLaw}
use Rattle.window_list.specs.Effect.{AccessedBy, AnySort}
use Rattle.window_list.specs.Played.{Behind, behind_after, StateAfter}
use Rattle.card.specs.declared.refusal.SetUpRefusal.{SetUpRefusal}

abbrev pub opening_of : Layout → Meaning → ℕ → Result (Unit {0}) OpeningRefusal
opening_of l m board = check_opening (table_of l) m board

-- a window that is shut has no cells
abbrev pub image : Layout → Meaning → ℕ → Meaning → Meaning
image l m board n = shown (is_ok (opening_of l m board)) l n

pub record Promise {S : Type 0} (meaning : S → Meaning) (R : S → Call → S → Type 0) (number : ℕ) (l : Layout) (board : ℕ) (s t : S) (report : WindowReport) (cs ds : List Recorded) : Type 0 where
  -- It opens just over a table that is good.
  pub opens : Decides (is_ok (opening_of l (meaning s) board)) (Openable (table_of l) (meaning s) board)
  -- The reference model: every answer and every buffer is the model's, and so are size and cells after every call, the last one too.
  pub calls : ds ≡ played (image l (meaning s) board (meaning s)) cs
  pub every : (k : ℕ) → k ≤ length cs → StateAfter meaning R (is_ok (opening_of l (meaning s) board)) l s empty_tlb (calls_of cs) k t
  pub cells : image l (meaning s) board (meaning t) ≡ model (image l (meaning s) board (meaning s)) (calls_of cs)
  -- The law over the list: refused is just what the cells at the opening refuse, and every byte read and every cell at the end is the one
  -- that the last accepted write put there, or else the one at the opening.
  pub law : ListLaw (image l (meaning s) board (meaning s)) cs ds (image l (meaning s) board (meaning t))
  -- Nothing else changes below: no cell but a byte where a cell of the window stands, and the first byte of an entry that can be read; and
  -- of an entry no bit but its marks.
  pub size : (meaning t).size ≡ (meaning s).size
  pub others : (p : ℕ) → (StandsThere l (meaning s) p → ⊥) → (MarksThere l (meaning s) p → ⊥) → (meaning t).cell p ≡ (meaning s).cell p
  pub table : SameTable (table_of l) (meaning s) (meaning t)
  -- Marks are exact: set is just what was set at the opening, or whose page an accepted call of its sort touched.
  pub referenced : (k : ℕ) (e d : Entry) → k < (table_of l).entries → entry_read (meaning s) (entry_address (table_of l) k) ≡ Ok e → entry_read (meaning t) (entry_address (table_of l) k) ≡ Ok d
      → Decides d.referenced ((e.referenced ≡ true) ⊎ ((is_ok (opening_of l (meaning s) board) ≡ true) × AccessedBy AnySort l (meaning s) (calls_of cs) k))
  pub modified : (k : ℕ) (e d : Entry) → k < (table_of l).entries → entry_read (meaning s) (entry_address (table_of l) k) ≡ Ok e → entry_read (meaning t) (entry_address (table_of l) k) ≡ Ok d
      → Decides d.modified ((e.modified ≡ true) ⊎ ((is_ok (opening_of l (meaning s) board) ≡ true) × AccessedBy Writes l (meaning s) (calls_of cs) k))
  -- What is held, and what is counted, is what the rules of the TLB make of the list; and so is all below.
  pub tlb : Tlb
  pub behind : ◌≡◌ {A = Behind} (record { cells = meaning t; tlb = tlb }) (behind_after (is_ok (opening_of l (meaning s) board)) l (record { cells = meaning s; tlb = empty_tlb }) (calls_of cs))
  pub reports : report ≡ reported number (opening_of l (meaning s) board) tlb
  -- Calls led to the memory that is given back.
  pub reached : Reached R s t

abbrev pub Ran : {S : Type 0} → (S → Meaning) → (S → Call → S → Type 0) → Rules → ℕ → S → S → Result WindowReport SetUpRefusal → List Recorded → List Recorded → Result (List ℕ) SetUpRefusal → Type 0
Ran meaning R rules board s t outcome cs ds (Ok values) = (report : WindowReport) × (outcome ≡ Ok report) × Promise meaning R rules.type_number (layout_of rules values) board s t report cs ds
-- the memory itself comes back, and no call was made
Ran meaning R rules board s t outcome cs ds (Err refusal) = (outcome ≡ Err refusal) × (t ≡ s) × (ds ≡ cs)
