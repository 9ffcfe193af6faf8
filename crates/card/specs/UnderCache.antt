-- What a cache over a window is promised to do, from their making to their closing. Assumes nothing.
-- seen l m board n: the size and the cells of a cache over the window that was opened by the layout l over the memory m, where the memory
-- means n now
-- SeenAfter meaning R l board s cs k t: the state after the first k of the calls cs, from s before them to t after all
-- UnderCache meaning R number l board s t report cached cs ds: a window was opened by the layout l over a memory in the state s, a cache
-- made over it, and the list cs played on the cache, which came back as ds; both were reported on and closed, and left the memory in the
-- state t
-- RanUnderCache meaning R rules board s t outcome cs ds set_up: the same, if the registers armed; nothing, if they were refused
use Rattle.std.specs.Prelude.{◌≡◌, ℕ, ◌<◌, ◌≤◌, true, ◌⊎◌, Decides, is_ok, List, length, take, Ok, Err, Result}
use Rattle.memory.specs.Meaning.{Meaning}
use Rattle.memory.specs.Reach.{Call, Writes, Reached}
use Rattle.memory.specs.Up.{cells_up}
use Rattle.mapping.specs.Rules.{Rules, Layout, layout_of}
use Rattle.page_table.specs.declared.entry.Entry.{Entry}
use Rattle.page_table.specs.declared.tlb.Tlb.{Tlb}
use Rattle.page_table.specs.Tlb.{empty_tlb}
use Rattle.page_table.specs.Table.{table_of, entry_address, entry_read}
use Rattle.page_table.specs.Class.{SameTable}
use Rattle.opening.specs.Opening.{Openable}
use Rattle.transfer.specs.Effect.{StandsThere, MarksThere}
use Rattle.window.specs.declared.report.WindowReport.{WindowReport}
use Rattle.window.specs.Report.{reported}
use Rattle.cache.specs.declared.counts.CacheReport.{CacheReport}
use Rattle.cache.specs.Counts as counts
use Rattle.cache.specs.Rules.{empty_cache}
use Rattle.call_list.specs.Record.{Recorded, calls_of}
use Rattle.call_list.specs.Model.{played, model}
use Rattle.call_list.specs.Law.{ListLaw}
use Rattle.window_list.specs.Effect.{AccessedBy, AnySort}
use Rattle.window_list.specs.Played.{Behind, behind_after}
use Rattle.cache_list.specs.Behind as cached
use Rattle.card.specs.declared.refusal.SetUpRefusal.{SetUpRefusal}
use Rattle.card.specs.Promise.{opening_of, image}

abbrev pub seen : Layout → Meaning → ℕ → Meaning → Meaning
seen l m board n = cells_up (image l m board n)

pub record SeenAfter {S : Type 0} (meaning : S → Meaning) (R : S → Call → S → Type 0) (l : Layout) (board : ℕ) (s : S) (cs : List Call) (k : ℕ) (t : S) : Type 0 where
  pub below : S
  pub cells : seen l (meaning s) board (meaning below) ≡ model (seen l (meaning s) board (meaning s)) (take k cs)
  pub before : Reached R s below
  pub after : Reached R below t

pub record UnderCache {S : Type 0} (meaning : S → Meaning) (R : S → Call → S → Type 0) (number : ℕ) (l : Layout) (board : ℕ) (s t : S) (report : WindowReport) (cached_report : CacheReport) (cs ds : List Recorded) : Type 0 where
  -- The window opens just over a table that is good.
  pub opens : Decides (is_ok (opening_of l (meaning s) board)) (Openable (table_of l) (meaning s) board)
  -- The reference model of the cache's cells: answers, buffers, and size and cells after every call.
  pub calls : ds ≡ played (seen l (meaning s) board (meaning s)) cs
  pub every : (k : ℕ) → k ≤ length cs → SeenAfter meaning R l board s (calls_of cs) k t
  pub cells : seen l (meaning s) board (meaning t) ≡ model (seen l (meaning s) board (meaning s)) (calls_of cs)
  -- The law over the list.
  pub law : ListLaw (seen l (meaning s) board (meaning s)) cs ds (seen l (meaning s) board (meaning t))
  -- The cache's report is what its rules count over the list.
  pub cache_reports : cached_report ≡ counts.reported (cached.behind_after (record { cells = image l (meaning s) board (meaning s); state = empty_cache }) (calls_of cs)).state.counts
  -- Nothing else changes below.
  pub size : (meaning t).size ≡ (meaning s).size
  pub others : (p : ℕ) → (StandsThere l (meaning s) p → ⊥) → (MarksThere l (meaning s) p → ⊥) → (meaning t).cell p ≡ (meaning s).cell p
  pub table : SameTable (table_of l) (meaning s) (meaning t)
  -- Marks, what is held and what is counted follow from the calls that the window got, by its own rules.
  pub asked : List Call
  pub referenced : (k : ℕ) (e d : Entry) → k < (table_of l).entries → entry_read (meaning s) (entry_address (table_of l) k) ≡ Ok e → entry_read (meaning t) (entry_address (table_of l) k) ≡ Ok d
      → Decides d.referenced ((e.referenced ≡ true) ⊎ ((is_ok (opening_of l (meaning s) board) ≡ true) × AccessedBy AnySort l (meaning s) asked k))
  pub modified : (k : ℕ) (e d : Entry) → k < (table_of l).entries → entry_read (meaning s) (entry_address (table_of l) k) ≡ Ok e → entry_read (meaning t) (entry_address (table_of l) k) ≡ Ok d
      → Decides d.modified ((e.modified ≡ true) ⊎ ((is_ok (opening_of l (meaning s) board) ≡ true) × AccessedBy Writes l (meaning s) asked k))
  pub tlb : Tlb
  pub behind : ◌≡◌ {A = Behind} (record { cells = meaning t; tlb = tlb }) (behind_after (is_ok (opening_of l (meaning s) board)) l (record { cells = meaning s; tlb = empty_tlb }) asked)
  pub reports : report ≡ reported number (opening_of l (meaning s) board) tlb
  -- Calls led to the memory that is given back.
  pub reached : Reached R s t

abbrev pub RanUnderCache : {S : Type 0} → (S → Meaning) → (S → Call → S → Type 0) → Rules → ℕ → S → S → Result (WindowReport × CacheReport) SetUpRefusal → List Recorded → List Recorded → Result (List ℕ) SetUpRefusal → Type 0
RanUnderCache meaning R rules board s t outcome cs ds (Ok values) = (reports : WindowReport × CacheReport) × (outcome ≡ Ok reports) × UnderCache meaning R rules.type_number (layout_of rules values) board s t reports.0 reports.1 cs ds
-- the memory itself comes back, and no call was made
RanUnderCache meaning R rules board s t outcome cs ds (Err refusal) = (outcome ≡ Err refusal) × (t ≡ s) × (ds ≡ cs)
