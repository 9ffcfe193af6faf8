-- A cache over a window, asked and closed. Assumes nothing.
use Rattle.std.proofs.Common.{◌≡◌, ℕ, List, [], Ok, Err, Result, is_ok, refl, sym, ap, ◌∙◌, subst}
use Rattle.memory.specs.declared.fault.Fault.{Fault}
use Rattle.memory.specs.Meaning.{Meaning}
use Rattle.memory.specs.Reach.{Call, Reached, Step, after_calls}
use Rattle.mapping.specs.Rules.{Layout}
use Rattle.page_table.specs.Table.{table_of}
use Rattle.page_table.specs.Tlb.{empty_tlb}
use Rattle.page_table.specs.Walk.{windowed, shown}
use Rattle.opening.specs.declared.reason.OpeningRefusal.{OpeningRefusal}
use Rattle.opening.specs.Opening.{check_opening}
use Rattle.window.specs.declared.window.Window.{Window}
use Rattle.window.specs.declared.report.WindowReport.{WindowReport}
use Rattle.window.specs.Report.{reported}
use Rattle.window_list.specs.Played.{behind_after}
use Rattle.window_list.proofs.Playing.{WindowCells, WindowCoherent, WindowStep, window_reached}
use Rattle.cache.specs.declared.counts.CacheReport.{CacheReport}
use Rattle.cache.specs.Counts as counts
use Rattle.cache.specs.Rules.{CacheState, empty_cache}
use Rattle.cache_list.specs.Behind.{Behind, call_behind}
use Rattle.span.specs.Span.{Ended, ended, cache_answer}
use Rattle.card_c.specs.declared.answer.CardAnswer.{CardAnswer}
use Rattle.card_c.specs.declared.answer.CardWindowReport.{CardWindowReport}
use Rattle.card_c.specs.Answer.{opening_refused, refused, cached_answer}
use Rattle.card_c.specs.Called.{opened, called, opened_over, CountedOver, AnsweredOver}
use Rattle.card_c.proofs.Counted.{answered_over}

pub refused_over : (l : Layout) (board : ℕ) (cs : List Call) (m : Meaning) (e : OpeningRefusal) (r : CardAnswer) → check_opening (table_of l) m board ≡ Err e → r ≡ refused (opening_refused e) → AnsweredOver l board cs m r
unfolding after_calls
refused_over l board cs m e r shut is = record {
  answer = is ∙ ap (opened_over l cs m r.window) (sym shut);
  counted = record { asked = []; tlb = empty_tlb; same = refl; counts = ap (λ a. a.window) is };
}

-- nothing was asked of the cache
module _ (l : Layout) (board : ℕ) (m : Meaning) (r : CardAnswer) where
  unasked : (o : Result (Unit {0}) OpeningRefusal) → check_opening (table_of l) m board ≡ o → r ≡ opened l [] m o → AnsweredOver l board [] m r
  unfolding ended after_calls
  unasked (Ok u) open1 is =
      answered_over l board [] m (windowed l m) (windowed l m) empty_cache empty_cache (Ok tt) 0 (counts.reported counts.no_counts) (record { lookups = 0; fills = 0 }) r u open1 refl refl refl refl is
      (record { asked = []; tlb = empty_tlb; same = refl; counts = refl })
  unasked (Err e) shut is = refused_over l board [] m e r shut is

  pub unasked_over : r ≡ called l board [] m → AnsweredOver l board [] m r
  unasked_over is = unasked (check_opening (table_of l) m board) refl is

abbrev pub counts_of : WindowReport → CardWindowReport
counts_of r = record { lookups = r.lookups; fills = r.fills }

module _ {P S Q : Type 0} (armed : P → Type 0) (layout : P → Layout) (meaning : S → Meaning) (coherent : S → Type 0) (R : S → Call → S → Type 0) where
  abbrev Steps : Window P S Q → Call → Window P S Q → Type 0
  Steps = Step (WindowCells armed layout meaning coherent R) (WindowCoherent armed layout meaning coherent R) (WindowStep armed layout meaning coherent R)

  -- a window v that was opened by the layout l over the memory m
  pub record OpenedBy (l : Layout) (board : ℕ) (m : Meaning) (v : Window P S Q) : Type 0 where
    pub opening : v.opening ≡ check_opening (table_of l) m board
    pub layout_is : layout v.mapping ≡ l
    pub same : meaning v.below ≡ m
    pub empty : v.tlb ≡ empty_tlb

  module _ (l : Layout) (board : ℕ) (m : Meaning) (v w : Window P S Q) (o : OpenedBy l board m v) (reached : Reached Steps v w) where
    counted : (n : ℕ) (report : WindowReport) → report ≡ reported n w.opening w.tlb → CountedOver l board m (counts_of report)
    counted n report reports =
        let x = window_reached armed layout meaning coherent R v w reached in
        record {
          asked = x.asked;
          tlb = w.tlb;
          same =
              ap (λ y. y.tlb) x.behind
              ∙ ap (λ r. (behind_after (is_ok r) (layout v.mapping) (record { cells = meaning v.below; tlb = v.tlb }) x.asked).tlb) o.opening
              ∙ ap (λ k. (behind_after (is_ok (check_opening (table_of l) m board)) k (record { cells = meaning v.below; tlb = v.tlb }) x.asked).tlb) o.layout_is
              ∙ ap (λ n. (behind_after (is_ok (check_opening (table_of l) m board)) l (record { cells = n; tlb = v.tlb }) x.asked).tlb) o.same
              ∙ ap (λ t. (behind_after (is_ok (check_opening (table_of l) m board)) l (record { cells = m; tlb = t }) x.asked).tlb) o.empty;
          counts = ap counts_of reports;
        }

    cells : (u : Unit {0}) → v.opening ≡ Ok u → shown (is_ok v.opening) (layout v.mapping) (meaning v.below) ≡ windowed l m
    cells u is =
        ap (λ r. shown (is_ok r) (layout v.mapping) (meaning v.below)) is
        ∙ ap (λ k. windowed k (meaning v.below)) o.layout_is
        ∙ ap (windowed l) o.same

    pub open_over : (cs : List Call) (u : Unit {0}) (y : Meaning) (p q : CacheState) (answer : Result (Unit {0}) Fault) (done : ℕ) (cached : CacheReport) (n : ℕ) (report : WindowReport) (r : CardAnswer)
        → v.opening ≡ Ok u → p ≡ empty_cache
        → ◌≡◌ {A = Ended Behind} (record { answer = answer; done = done; left = record { cells = y; state = q } }) (ended cache_answer call_behind cs (record { cells = shown (is_ok v.opening) (layout v.mapping) (meaning v.below); state = p }))
        → cached ≡ counts.reported q.counts → report ≡ reported n w.opening w.tlb → r ≡ cached_answer answer done cached (counts_of report) → AnsweredOver l board cs m r
    open_over cs u y p q answer done cached n report r is none came cache_reports reports all =
        answered_over l board cs m _ y p q answer done cached (counts_of report) r u (sym o.opening ∙ is) (cells u is) none came cache_reports all (counted n report reports)

  -- the same window, as the cache holds it
  pub opened_as : (l : Layout) (board : ℕ) (m : Meaning) (v x : Window P S Q) → x ≡ v → OpenedBy l board m v → OpenedBy l board m x
  opened_as l board m v x same o = subst (OpenedBy l board m) (sym same) o
