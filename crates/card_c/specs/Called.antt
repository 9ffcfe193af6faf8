-- What a call answers and leaves, from its registers to its closing. Assumes nothing.
-- through l cs m: what the calls cs come to, made on an open window by the layout l over the memory m up to the first refused one
-- opened l cs m r, left l cs m r: the answer, and the memory below afterwards, where the opening was answered with r
-- called l board cs m, after l board cs m: both, with a board of so many bytes
-- through_over l cs m: what they come to on a cache over the window
-- called_over l board cs m w: the answer then, but for the window's report, which is w
-- CountedUnder m c: c is the report of a cache over the memory m, which some calls of the window have asked
-- CountedOver l board m w: w is the report of the window, which some calls of the cache over it have asked
-- Answered p l board cs m r: r is the answer by a cache in the place p
-- AnsweredBy p t board cs m r: the same by what the registers gave: a layout, or a refusal
-- CardAnswered s bytes board cs r: the same over these bytes, by what the caller chose with s
-- image_at p l m, image_by p t m, card_image s bytes: the cells that the caller reads and writes
-- board_after s b: the board that held b
use Rattle.std.specs.Prelude.{◌≡◌, ℕ, Bool, true, false, cond, is_ok, List, length, replicate, Ok, Err, Result}
use Rattle.memory.specs.Meaning.{Meaning}
use Rattle.memory.specs.Up.{cells_up}
use Rattle.memory.specs.Reach.{Call}
use Rattle.mapping.specs.Rules.{Layout}
use Rattle.page_table.specs.declared.tlb.Tlb.{Tlb}
use Rattle.page_table.specs.Table.{table_of}
use Rattle.page_table.specs.Tlb.{empty_tlb}
use Rattle.page_table.specs.Walk.{windowed, shut}
use Rattle.opening.specs.declared.reason.OpeningRefusal.{OpeningRefusal}
use Rattle.opening.specs.Opening.{check_opening}
use Rattle.window_list.specs.Played.{Behind, call_behind, behind_after}
use Rattle.cache.specs.Counts as counts
use Rattle.cache.specs.Rules.{empty_cache}
use Rattle.cache_list.specs.Behind as cached
use Rattle.span.specs.Span.{Ended, ended, window_answer, cache_answer}
use Rattle.card_c.specs.declared.answer.CardAnswer.{CardAnswer}
use Rattle.card_c.specs.declared.answer.CardCacheReport.{CardCacheReport}
use Rattle.card_c.specs.declared.answer.CardRefusal.{CardRefusal}
use Rattle.card_c.specs.declared.answer.CardWindowReport.{CardWindowReport}
use Rattle.card_c.specs.declared.setup.CachePlace.{CachePlace}
use Rattle.card_c.specs.declared.setup.CachePlace.TheVariants.{Absent, Under, Over}
use Rattle.card_c.specs.declared.setup.CardSetup.{CardSetup}
use Rattle.card_c.specs.declared.setup.Choices.{Choices}
use Rattle.card_c.specs.Answer.{opening_refused, cache_numbers, refused, span_answer, cached_answer}
use Rattle.card_c.specs.Setup.{choices, rules_of, meaning_of, layout_by}

abbrev pub through : Layout → List Call → Meaning → Ended Behind
through l cs m = ended (window_answer l) (call_behind true l) cs (record { cells = m; tlb = empty_tlb })

abbrev pub opened : Layout → List Call → Meaning → Result (Unit {0}) OpeningRefusal → CardAnswer
opened l cs m (Ok u) = let e = through l cs m in span_answer e.answer e.done e.left.tlb
opened l cs m (Err e) = refused (opening_refused e)

abbrev pub left : Layout → List Call → Meaning → Result (Unit {0}) OpeningRefusal → Meaning
left l cs m (Ok u) = (through l cs m).left.cells
left l cs m (Err e) = m

abbrev pub called : Layout → ℕ → List Call → Meaning → CardAnswer
called l board cs m = opened l cs m (check_opening (table_of l) m board)

abbrev pub after : Layout → ℕ → List Call → Meaning → Meaning
after l board cs m = left l cs m (check_opening (table_of l) m board)

abbrev pub through_over : Layout → List Call → Meaning → Ended cached.Behind
through_over l cs m = ended cache_answer cached.call_behind cs (record { cells = windowed l m; state = empty_cache })

abbrev pub opened_over : Layout → List Call → Meaning → CardWindowReport → Result (Unit {0}) OpeningRefusal → CardAnswer
opened_over l cs m w (Ok u) = let e = through_over l cs m in cached_answer e.answer e.done (counts.reported e.left.state.counts) w
opened_over l cs m w (Err e) = refused (opening_refused e)

abbrev pub called_over : Layout → ℕ → List Call → Meaning → CardWindowReport → CardAnswer
called_over l board cs m w = opened_over l cs m w (check_opening (table_of l) m board)

pub record CountedUnder (m : Meaning) (c : CardCacheReport) : Type 0 where
  pub asked : List Call
  pub counts : c ≡ cache_numbers (counts.reported (cached.behind_after (record { cells = m; state = empty_cache }) asked).state.counts)

pub record CountedOver (l : Layout) (board : ℕ) (m : Meaning) (w : CardWindowReport) : Type 0 where
  pub asked : List Call
  pub tlb : Tlb
  pub same : tlb ≡ (behind_after (is_ok (check_opening (table_of l) m board)) l (record { cells = m; tlb = empty_tlb }) asked).tlb
  pub counts : w ≡ record { lookups = tlb.lookups; fills = tlb.fills }

pub record AnsweredUnder (l : Layout) (board : ℕ) (cs : List Call) (m : Meaning) (r : CardAnswer) : Type 0 where
  pub answer : r ≡ record (called l board cs (cells_up m)) { cache = r.cache }
  pub counted : CountedUnder m r.cache

pub record AnsweredOver (l : Layout) (board : ℕ) (cs : List Call) (m : Meaning) (r : CardAnswer) : Type 0 where
  pub answer : r ≡ called_over l board cs m r.window
  pub counted : CountedOver l board m r.window

abbrev pub Answered : CachePlace → Layout → ℕ → List Call → Meaning → CardAnswer → Type 0
Answered Absent l board cs m r = r ≡ called l board cs m
Answered Under l board cs m r = AnsweredUnder l board cs m r
Answered Over l board cs m r = AnsweredOver l board cs m r

abbrev pub AnsweredBy : CachePlace → Result Layout CardRefusal → ℕ → List Call → Meaning → CardAnswer → Type 0
AnsweredBy p (Ok l) board cs m r = Answered p l board cs m r
AnsweredBy p (Err e) board cs m r = r ≡ refused e

abbrev pub AnsweredOn : CardSetup → List ℕ → ℕ → List Call → CardAnswer → Result Choices CardRefusal → Type 0
AnsweredOn s bytes board cs r (Ok c) = AnsweredBy c.cache (layout_by (rules_of c.mapping) s.registers) board cs (meaning_of c.format bytes) r
AnsweredOn s bytes board cs r (Err e) = r ≡ refused e

abbrev pub CardAnswered : CardSetup → List ℕ → ℕ → List Call → CardAnswer → Type 0
CardAnswered s bytes board cs r = AnsweredOn s bytes board cs r (choices s.mapping s.format s.cache)

abbrev pub image_at : CachePlace → Layout → Meaning → Meaning
image_at Absent l m = windowed l m
image_at Under l m = windowed l (cells_up m)
image_at Over l m = cells_up (windowed l m)

abbrev pub image_by : CachePlace → Result Layout CardRefusal → Meaning → Meaning
image_by p (Ok l) m = image_at p l m
image_by p (Err e) m = shut

abbrev pub image_on : CardSetup → List ℕ → Result Choices CardRefusal → Meaning
image_on s bytes (Ok c) = image_by c.cache (layout_by (rules_of c.mapping) s.registers) (meaning_of c.format bytes)
image_on s bytes (Err e) = shut

abbrev pub card_image : CardSetup → List ℕ → Meaning
card_image s bytes = image_on s bytes (choices s.mapping s.format s.cache)

abbrev pub armed_on : CardSetup → Result Choices CardRefusal → Bool
armed_on s (Ok c) = is_ok (layout_by (rules_of c.mapping) s.registers)
armed_on s (Err e) = false

-- it is cleared, unless the call is refused before the opening
abbrev pub board_after : CardSetup → List ℕ → List ℕ
board_after s b = cond (armed_on s (choices s.mapping s.format s.cache)) (replicate (length b) 0) b
