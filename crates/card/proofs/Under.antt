-- The promise of a cache over a window, from those of their steps. Assumes nothing.
use Rattle.std.proofs.Common.{◌≡◌, ℕ, Bool, true, List, take, is_ok, Ok, Result, refl, sym, ap, ◌∙◌, subst}
use Rattle.std.specs.Prelude.{Decides}
use Rattle.memory.specs.Meaning.{Meaning}
use Rattle.memory.specs.Reach.{Call, Reached, OnlyRead, Step}
use Rattle.memory.specs.Up.{cells_up}
use Rattle.memory.proofs.Reaches.{only_reached, reached_more}
use Rattle.mapping.specs.Rules.{Rules, Layout, layout_of}
use Rattle.page_table.specs.declared.tlb.Tlb.{Tlb}
use Rattle.page_table.specs.Tlb.{empty_tlb}
use Rattle.page_table.specs.Table.{table_of}
use Rattle.page_table.specs.Walk.{shown}
use Rattle.opening.specs.Opening.{Openable}
use Rattle.window.specs.declared.window.Window.{Window}
use Rattle.window.specs.declared.report.WindowReport.{WindowReport}
use Rattle.window.specs.Report.{reported}
use Rattle.cache.specs.declared.counts.CacheReport.{CacheReport}
use Rattle.cache.specs.Counts as counts
use Rattle.cache.specs.Rules.{CacheState, empty_cache}
use Rattle.call_list.specs.Record.{Recorded, calls_of}
use Rattle.call_list.specs.Model.{played, model}
use Rattle.call_list.specs.Law.{ListLaw}
use Rattle.window_list.specs.Effect.{ListEffect}
use Rattle.window_list.specs.Played.{Behind, behind_after}
use Rattle.window_list.proofs.Playing.{WindowCells, WindowCoherent, WindowStep, window_reached}
use Rattle.cache_list.specs.Behind as cached
use Rattle.cache_list.specs.Played as listed
use Rattle.card.specs.declared.refusal.SetUpRefusal.{SetUpRefusal}
use Rattle.card.specs.Promise.{opening_of, image}
use Rattle.card.specs.UnderCache.{seen, UnderCache, RanUnderCache}
use Rattle.card.proofs.Promises.{left_shut, below_by}

behind_by : {o p : Bool} {l k : Layout} {m n : Meaning} {g h : Tlb} {x : Behind} (cs : List Call) → o ≡ p → l ≡ k → m ≡ n → g ≡ h → x ≡ behind_after o l (record { cells = m; tlb = g }) cs → x ≡ behind_after p k (record { cells = n; tlb = h }) cs
behind_by {o} {p} {l} {k} {m} {n} {g} {h} {x} cs one two three four is =
    is
    ∙ ap (λ y. behind_after y l (record { cells = m; tlb = g }) cs) one
    ∙ ap (λ y. behind_after p y (record { cells = m; tlb = g }) cs) two
    ∙ ap (λ y. behind_after p k (record { cells = y; tlb = g }) cs) three
    ∙ ap (λ y. behind_after p k (record { cells = n; tlb = y }) cs) four

module _ {P S Q : Type 0} (armed : P → Type 0) (layout : P → Layout) (meaning : S → Meaning) (coherent : S → Type 0) (R : S → Call → S → Type 0) where
  abbrev Cells : Window P S Q → Meaning
  Cells = WindowCells armed layout meaning coherent R

  abbrev Steps : Window P S Q → Call → Window P S Q → Type 0
  Steps = Step (WindowCells armed layout meaning coherent R) (WindowCoherent armed layout meaning coherent R) (WindowStep armed layout meaning coherent R)

  -- a window v that was opened over s by the layout l
  module _ (l : Layout) (board : ℕ) (s : S) (v : Window P S Q) (opening : v.opening ≡ opening_of l (meaning s) board) (lay : layout v.mapping ≡ l) (same : meaning v.below ≡ meaning s) (reads : OnlyRead R s v.below) (empty : v.tlb ≡ empty_tlb) where
    shown_by : (u : Window P S Q) → layout u.mapping ≡ l → u.opening ≡ v.opening → Cells u ≡ image l (meaning s) board (meaning u.below)
    shown_by u at is =
        ap (λ x. shown (is_ok u.opening) x (meaning u.below)) at
        ∙ ap (λ o. shown (is_ok o) l (meaning u.below)) (is ∙ opening)

    start : Cells v ≡ image l (meaning s) board (meaning s)
    start = shown_by v lay refl ∙ ap (image l (meaning s) board) same

    -- every window that calls led to from v
    cells_of : (u : Window P S Q) → Reached Steps v u → Cells u ≡ image l (meaning s) board (meaning u.below)
    cells_of u p =
        let r = window_reached armed layout meaning coherent R v u p in
        shown_by u (ap layout r.mapping ∙ lay) r.opening

    led : (u : Window P S Q) → Reached Steps v u → Reached R s u.below
    led u p = reached_more R (only_reached R reads) (window_reached armed layout meaning coherent R v u p).reached

    module _ (number : ℕ) (w : Window P S Q) (o p : CacheState) (cs ds : List Recorded) (list : listed.PlayedThrough Cells Steps v w o p cs ds) (none : o ≡ empty_cache) where
      pub under : (report : WindowReport) (cached_report : CacheReport) → report ≡ reported number w.opening w.tlb → cached_report ≡ counts.reported p.counts → Decides (is_ok (opening_of l (meaning s) board)) (Openable (table_of l) (meaning s) board) → UnderCache meaning R number l board s w.below report cached_report cs ds
      under report cached_report reports cache_reports opens =
          let r = window_reached armed layout meaning coherent R v w list.reached in
          let end = cells_of w list.reached in
          let behind = behind_by r.asked (ap is_ok opening) lay same empty r.behind in
          let effect : is_ok (opening_of l (meaning s) board) ≡ true → ListEffect l (meaning s) (meaning w.below) r.asked =
          λ opened. subst (λ x. ListEffect x (meaning s) (meaning w.below) r.asked) lay
          (subst (λ m. ListEffect (layout v.mapping) m (meaning w.below) r.asked) same (r.effect (ap is_ok opening ∙ opened))) in
          let x = below_by (is_ok (opening_of l (meaning s) board)) l (meaning s) (meaning w.below) r.asked effect (λ shut. left_shut l (meaning s) (meaning w.below) empty_tlb w.tlb r.asked _ shut behind) in
          record {
            opens = opens;
            calls = list.calls ∙ ap (λ m. played (cells_up m) cs) start;
            every = λ k low.
                let y = list.every k low in
                record {
                  below = y.below.below;
                  cells = sym (ap cells_up (cells_of y.below y.before)) ∙ y.cells ∙ ap (λ m. model (cells_up m) (take k (calls_of cs))) start;
                  before = led y.below y.before;
                  after = (window_reached armed layout meaning coherent R y.below w y.after).reached;
                };
            cells = sym (ap cells_up end) ∙ list.cells ∙ ap (λ m. model (cells_up m) (calls_of cs)) start;
            law = subst (λ m. ListLaw (cells_up m) cs ds (seen l (meaning s) board (meaning w.below))) start (subst (λ n. ListLaw (cells_up (Cells v)) cs ds (cells_up n)) end list.law);
            cache_reports =
                cache_reports ∙ ap (λ y. counts.reported y.state.counts) list.behind
                ∙ ap (λ m. counts.reported (cached.behind_after (record { cells = m; state = o }) (calls_of cs)).state.counts) start
                ∙ ap (λ y. counts.reported (cached.behind_after (record { cells = image l (meaning s) board (meaning s); state = y }) (calls_of cs)).state.counts) none;
            size = x.size;
            others = x.others;
            table = x.table;
            asked = r.asked;
            referenced = x.referenced;
            modified = x.modified;
            tlb = w.tlb;
            behind = behind;
            reports = reports ∙ ap (λ y. reported number y w.tlb) (r.opening ∙ opening);
            reached = led w list.reached;
          }

-- a set that armed with these values
pub ran_under : {S : Type 0} (meaning : S → Meaning) (R : S → Call → S → Type 0) (rules : Rules) (values : List ℕ) (r : Result (List ℕ) SetUpRefusal) (board : ℕ) (s t u : S) (reports : WindowReport × CacheReport) (cs ds : List Recorded) → Ok values ≡ r → u ≡ t → UnderCache meaning R rules.type_number (layout_of rules values) board s u reports.0 reports.1 cs ds → RanUnderCache meaning R rules board s t (Ok reports) cs ds r
ran_under meaning R rules values r board s t u reports cs ds is back promise =
    subst (RanUnderCache meaning R rules board s t (Ok reports) cs ds) is
    (reports, refl, subst (λ x. UnderCache meaning R rules.type_number (layout_of rules values) board s x reports.0 reports.1 cs ds) back promise)
