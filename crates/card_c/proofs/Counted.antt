-- What a cache and a window report of the calls that they were asked. Assumes nothing.
use Rattle.std.proofs.Common.{◌≡◌, ℕ, List, [], ◌∷◌, Ok, Result, refl, sym, ap, ◌∙◌, subst}
use Rattle.memory.specs.declared.fault.Fault.{Fault}
use Rattle.memory.specs.Meaning.{Meaning}
use Rattle.memory.specs.Up.{cells_up}
use Rattle.memory.specs.Reach.{Call, Reached, Step, after_calls}
use Rattle.memory.proofs.Reaches.{reached_keeps}
use Rattle.mapping.specs.Rules.{Layout}
use Rattle.page_table.specs.Table.{table_of}
use Rattle.page_table.specs.Walk.{windowed}
use Rattle.opening.specs.Opening.{check_opening}
use Rattle.cache_lines.specs.Lines.{sets_of}
use Rattle.cache.specs.declared.layer.Cache.{Cache}
use Rattle.cache.specs.declared.counts.CacheReport.{CacheReport}
use Rattle.cache.specs.Counts as counts
use Rattle.cache.specs.Rules.{CacheState, empty_cache}
use Rattle.cache.specs.State.{Called}
use Rattle.cache_list.specs.Behind.{Behind, call_behind, behind_after}
use Rattle.span.specs.Span.{Ended, ended, cache_answer}
use Rattle.card_c.specs.declared.answer.CardAnswer.{CardAnswer}
use Rattle.card_c.specs.declared.answer.CardCacheReport.{CardCacheReport}
use Rattle.card_c.specs.declared.answer.CardWindowReport.{CardWindowReport}
use Rattle.card_c.specs.Answer.{cache_numbers, cached_answer}
use Rattle.card_c.specs.Called.{called, called_over, opened_over, through_over, CountedUnder, CountedOver, AnsweredUnder, AnsweredOver}

abbrev behind : {S : Type 0} → (S → Meaning) → Cache S → Behind
behind meaning c = record { cells = meaning c.below; state = record { sets = sets_of c.lines; counts = c.counts } }

module _ {S : Type 0} (meaning : S → Meaning) (coherent : S → Type 0) (R : S → Call → S → Type 0) where
  abbrev CacheStep : Cache S → Call → Cache S → Type 0
  CacheStep c a d = Called (Reached (Step meaning coherent R) c.below d.below) (d.below ≡ c.below) (meaning c.below) (meaning d.below) (record { sets = sets_of c.lines; counts = c.counts }) (record { sets = sets_of d.lines; counts = d.counts }) a

  -- some calls led from one to the other
  abbrev Asked : Cache S → Cache S → Type 0
  Asked v w = (asked : List Call) × (behind meaning w ≡ behind_after (behind meaning v) asked)

  asked_none : (v : Cache S) → Asked v v
  unfolding after_calls
  asked_none v = ([], refl)

  asked_more : (v u w : Cache S) (c : Call) → CacheStep v c u → Asked u w → Asked v w
  unfolding after_calls
  asked_more v u w c step rest =
      let one : behind meaning u ≡ call_behind (behind meaning v) c = λ i. record { cells = step.below i; state = step.state i } in
      (c ∷ rest.0, rest.1 ∙ ap (λ x. behind_after x rest.0) one)

  pub counted_under : (v w : Cache S) (m : Meaning) → meaning v.below ≡ m → record { sets = sets_of v.lines; counts = v.counts } ≡ empty_cache → Reached CacheStep v w → (r : CacheReport) → r ≡ counts.reported w.counts → CountedUnder m (cache_numbers r)
  counted_under v w m same empty reached r reports =
      let x : Asked v w = reached_keeps CacheStep Asked asked_none asked_more v w reached in
      let start : behind meaning v ≡ record { cells = m; state = empty_cache } = λ i. record { cells = same i; state = empty i } in
      record {
        asked = x.0;
        counts =
            ap cache_numbers reports ∙ ap (λ y. cache_numbers (counts.reported y.state.counts)) x.1
            ∙ ap (λ y. cache_numbers (counts.reported (behind_after y x.0).state.counts)) start;
      }

pub answered_under : (l : Layout) (board : ℕ) (cs : List Call) (m n : Meaning) (x r : CardAnswer) (report : CacheReport) → n ≡ m → x ≡ called l board cs (cells_up n) → r ≡ record x { cache = cache_numbers report } → CountedUnder m (cache_numbers report) → AnsweredUnder l board cs m r
answered_under l board cs m n x r report same answered is counted =
    let own : CardAnswer → CardCacheReport → CardAnswer = λ y k. record y { cache = k } in
    let report_is : r.cache ≡ cache_numbers report = ap (λ y. y.cache) is in
    record {
      answer =
          is ∙ ap (λ y. own y (cache_numbers report)) (answered ∙ ap (λ o. called l board cs (cells_up o)) same)
          ∙ ap (own (called l board cs (cells_up m))) (sym report_is);
      counted = subst (CountedUnder m) (sym report_is) counted;
    }

pub answered_over : (l : Layout) (board : ℕ) (cs : List Call) (m x y : Meaning) (o p : CacheState) (answer : Result (Unit {0}) Fault) (done : ℕ) (report : CacheReport) (w : CardWindowReport) (r : CardAnswer) (u : Unit {0})
    → check_opening (table_of l) m board ≡ Ok u → x ≡ windowed l m → o ≡ empty_cache
    → ◌≡◌ {A = Ended Behind} (record { answer = answer; done = done; left = record { cells = y; state = p } }) (ended cache_answer call_behind cs (record { cells = x; state = o }))
    → report ≡ counts.reported p.counts → r ≡ cached_answer answer done report w → CountedOver l board m w → AnsweredOver l board cs m r
answered_over l board cs m x y o p answer done report w r u open1 same empty came reports is counted =
    let start : ◌≡◌ {A = Behind} (record { cells = x; state = o }) (record { cells = windowed l m; state = empty_cache }) = λ i. record { cells = same i; state = empty i } in
    let end : ◌≡◌ {A = Ended Behind} (record { answer = answer; done = done; left = record { cells = y; state = p } }) (through_over l cs m) = came ∙ ap (ended cache_answer call_behind cs) start in
    let all : r ≡ called_over l board cs m w =
    is ∙ ap (λ k. cached_answer answer done k w) reports
    ∙ ap (λ e. cached_answer e.answer e.done (counts.reported e.left.state.counts) w) end
    ∙ ap (opened_over l cs m w) (sym open1) in
    let report_is : r.window ≡ w = ap (λ a. a.window) is in
    record {
      answer = all ∙ ap (called_over l board cs m) (sym report_is);
      counted = subst (CountedOver l board m) (sym report_is) counted;
    }
