-- The promise of a window from its registers on, from those of its steps. Assumes nothing.
use Rattle.std.proofs.Common.{◌≡◌, ℕ, ◌<◌, Bool, true, false, ◌⊎◌, inl, inr, ⊎_elim, List, [], ◌∷◌, take, is_ok, Ok, Result, refl, sym, ap, ◌∙◌, subst}
use Rattle.std.specs.Prelude.{Decides}
use Rattle.std.proofs.lemmas.Bool.{false≢true}
use Rattle.memory.specs.Meaning.{Meaning}
use Rattle.memory.specs.Reach.{Call, Writes, OnlyRead, after_calls}
use Rattle.memory.proofs.Reaches.{only_reached, reached_more}
use Rattle.mapping.specs.Rules.{Rules, Layout, layout_of}
use Rattle.page_table.specs.declared.entry.Entry.{Entry}
use Rattle.page_table.specs.declared.tlb.Tlb.{Tlb}
use Rattle.page_table.specs.Tlb.{empty_tlb}
use Rattle.page_table.specs.Table.{table_of, entry_address, entry_read}
use Rattle.page_table.specs.Class.{SameTable}
use Rattle.page_table.specs.Walk.{shown}
use Rattle.opening.specs.Opening.{Openable}
use Rattle.transfer.specs.Effect.{StandsThere, MarksThere}
use Rattle.window.specs.declared.report.WindowReport.{WindowReport}
use Rattle.window.specs.Report.{reported}
use Rattle.call_list.specs.Record.{Recorded, calls_of}
use Rattle.call_list.specs.Model.{played, model}
use Rattle.call_list.specs.Law.{ListLaw}
use Rattle.window_list.specs.Effect.{AccessedBy, AnySort, ListEffect}
use Rattle.window_list.specs.Played.{Behind, behind_after, PlayedThrough}
use Rattle.window_list.proofs.Effects.{no_call, effect_none}
use Rattle.card.specs.declared.refusal.SetUpRefusal.{SetUpRefusal}
use Rattle.card.specs.Promise.{opening_of, Promise, Ran}

-- through a shut window nothing is done
behind_shut : (l : Layout) (x : Behind) (cs : List Call) → behind_after false l x cs ≡ x
unfolding after_calls
behind_shut l x [] = refl
behind_shut l x (c ∷ cs) = behind_shut l x cs

-- a shut window leaves every cell below
pub left_shut : (l : Layout) (m n : Meaning) (h i : Tlb) (cs : List Call) (is_open : Bool) → is_open ≡ false → ◌≡◌ {A = Behind} (record { cells = n; tlb = i }) (behind_after is_open l (record { cells = m; tlb = h }) cs) → n ≡ m
left_shut l m n h i cs true shut is = absurd (false≢true (sym shut))
left_shut l m n h i cs false shut is = ap (λ x. x.cells) (is ∙ behind_shut l (record { cells = m; tlb = h }) cs)

-- what a list changes below, if the window is open or not
pub record Below (is_open : Bool) (l : Layout) (m n : Meaning) (cs : List Call) : Type 0 where
  pub size : n.size ≡ m.size
  pub others : (p : ℕ) → (StandsThere l m p → ⊥) → (MarksThere l m p → ⊥) → n.cell p ≡ m.cell p
  pub table : SameTable (table_of l) m n
  pub referenced : (k : ℕ) (e d : Entry) → k < (table_of l).entries → entry_read m (entry_address (table_of l) k) ≡ Ok e → entry_read n (entry_address (table_of l) k) ≡ Ok d
      → Decides d.referenced ((e.referenced ≡ true) ⊎ ((is_open ≡ true) × AccessedBy AnySort l m cs k))
  pub modified : (k : ℕ) (e d : Entry) → k < (table_of l).entries → entry_read m (entry_address (table_of l) k) ≡ Ok e → entry_read n (entry_address (table_of l) k) ≡ Ok d
      → Decides d.modified ((e.modified ≡ true) ⊎ ((is_open ≡ true) × AccessedBy Writes l m cs k))

below_open : (l : Layout) (m n : Meaning) (cs : List Call) → ListEffect l m n cs → Below true l m n cs
below_open l m n cs e = record {
  size = e.size;
  others = e.cells;
  table = e.table;
  referenced = λ k x d low was is. let r = e.referenced k x d low was is in (λ set. ⊎_elim inl (λ a. inr (refl, a)) (r.0 set), ⊎_elim (λ set. r.1 (inl set)) (λ a. r.1 (inr a.1)));
  modified = λ k x d low was is. let r = e.modified k x d low was is in (λ set. ⊎_elim inl (λ a. inr (refl, a)) (r.0 set), ⊎_elim (λ set. r.1 (inl set)) (λ a. r.1 (inr a.1)));
}

below_shut : (l : Layout) (m n : Meaning) (cs : List Call) → n ≡ m → Below false l m n cs
below_shut l m n cs same =
    let none = subst (λ x. ListEffect l m x []) (sym same) (effect_none l m) in
    record {
      size = none.size;
      others = none.cells;
      table = none.table;
      referenced = λ k x d low was is. let r = none.referenced k x d low was is in (λ set. ⊎_elim inl (λ a. absurd (no_call a)) (r.0 set), ⊎_elim (λ set. r.1 (inl set)) (λ a. absurd (false≢true a.0)));
      modified = λ k x d low was is. let r = none.modified k x d low was is in (λ set. ⊎_elim inl (λ a. absurd (no_call a)) (r.0 set), ⊎_elim (λ set. r.1 (inl set)) (λ a. absurd (false≢true a.0)));
    }

pub below_by : (is_open : Bool) (l : Layout) (m n : Meaning) (cs : List Call) → (is_open ≡ true → ListEffect l m n cs) → (is_open ≡ false → n ≡ m) → Below is_open l m n cs
below_by true l m n cs opened shut = below_open l m n cs (opened refl)
below_by false l m n cs opened shut = below_shut l m n cs (shut refl)

module _ {S : Type 0} (meaning : S → Meaning) (R : S → Call → S → Type 0) (is_open : Bool) (l : Layout) where
  -- a list is played as well from a state before, from which reads alone led to its start
  pub from_before : (r s t : S) (h i : Tlb) (cs ds : List Recorded) → meaning s ≡ meaning r → OnlyRead R r s → PlayedThrough meaning R is_open l s t h i cs ds → PlayedThrough meaning R is_open l r t h i cs ds
  from_before r s t h i cs ds same reads p =
      let first = only_reached R reads in
      record {
        calls = p.calls ∙ ap (λ m. played (shown is_open l m) cs) same;
        every = λ k low.
            let x = p.every k low in
            record {
              below = x.below;
              tlb = x.tlb;
              cells = x.cells ∙ ap (λ m. model (shown is_open l m) (take k (calls_of cs))) same;
              behind = x.behind ∙ ap (λ m. behind_after is_open l (record { cells = m; tlb = h }) (take k (calls_of cs))) same;
              before = reached_more R first x.before;
              after = x.after;
            };
        cells = p.cells ∙ ap (λ m. model (shown is_open l m) (calls_of cs)) same;
        law = subst (λ m. ListLaw (shown is_open l m) cs ds (shown is_open l (meaning t))) same p.law;
        behind = p.behind ∙ ap (λ m. behind_after is_open l (record { cells = m; tlb = h }) (calls_of cs)) same;
        reached = reached_more R first p.reached;
        effect = λ opened. subst (λ m. ListEffect l m (meaning t) (calls_of cs)) same (p.effect opened);
      }

module _ {S : Type 0} (meaning : S → Meaning) (R : S → Call → S → Type 0) (number : ℕ) (l : Layout) (board : ℕ) (s t : S) (i : Tlb) (cs ds : List Recorded) where
  pub promised : (report : WindowReport) → report ≡ reported number (opening_of l (meaning s) board) i → Decides (is_ok (opening_of l (meaning s) board)) (Openable (table_of l) (meaning s) board) → PlayedThrough meaning R (is_ok (opening_of l (meaning s) board)) l s t empty_tlb i cs ds → Promise meaning R number l board s t report cs ds
  promised report reports opens p =
      let x = below_by (is_ok (opening_of l (meaning s) board)) l (meaning s) (meaning t) (calls_of cs) p.effect (λ shut. left_shut l (meaning s) (meaning t) empty_tlb i (calls_of cs) _ shut p.behind) in
      record {
        opens = opens;
        calls = p.calls;
        every = p.every;
        cells = p.cells;
        law = p.law;
        size = x.size;
        others = x.others;
        table = x.table;
        referenced = x.referenced;
        modified = x.modified;
        tlb = i;
        behind = p.behind;
        reports = reports;
        reached = p.reached;
      }

-- a list is played by equal parts
pub by_equals : {S : Type 0} (meaning : S → Meaning) (R : S → Call → S → Type 0) {o p : Bool} {l k : Layout} {s t u : S} {g h i : Tlb} {cs ds : List Recorded} → o ≡ p → l ≡ k → t ≡ u → g ≡ h → PlayedThrough meaning R o l s t g i cs ds → PlayedThrough meaning R p k s u h i cs ds
by_equals meaning R {o} {p} {l} {k} {s} {t} {u} {g} {h} {i} {cs} {ds} one two three four x =
    subst (λ y. PlayedThrough meaning R p k s u y i cs ds) four
    (subst (λ y. PlayedThrough meaning R p k s y g i cs ds) three
    (subst (λ y. PlayedThrough meaning R p y s t g i cs ds) two
    (subst (λ y. PlayedThrough meaning R y l s t g i cs ds) one x)))

-- a set that armed with these values
pub ran : {S : Type 0} (meaning : S → Meaning) (R : S → Call → S → Type 0) (rules : Rules) (values : List ℕ) (r : Result (List ℕ) SetUpRefusal) (board : ℕ) (s t : S) (report : WindowReport) (cs ds : List Recorded) → Ok values ≡ r → Promise meaning R rules.type_number (layout_of rules values) board s t report cs ds → Ran meaning R rules board s t (Ok report) cs ds r
ran meaning R rules values r board s t report cs ds is promise = subst (Ran meaning R rules board s t (Ok report) cs ds) is (report, refl, promise)
