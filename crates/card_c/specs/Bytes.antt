-- What a caller's bytes are after a call. Assumes nothing.
-- BytesAfter meaning updated n xs ys: ys means the memory n, and calls of the memory that xs means led to it, where `updated` says what a
-- write leaves
-- BytesAt p meaning updated l board cs xs ys: ys is left of xs by the calls cs, by a cache in the place p; with a cache only the length is known
-- BytesBy p meaning updated t board cs xs ys: the same by what the registers gave: a layout, or a refusal, which leaves xs
-- BytesLeft s xs board cs ys: the same by what the caller chose with s
-- KeptAt p xs ys, BytesKept s xs ys: ys is xs; by a cache below the window only the length is known
-- WrittenAt p l m n a bs: the cells of the window over n are those over m with bs stored at a; with a cache nothing is known
-- WrittenBy p t m n a bs, CardWritten s xs ys a bs: the same by what the registers gave, and by what the caller chose
use Rattle.std.specs.Prelude.{◌≡◌, ℕ, List, length, Ok, Err, Result}
use Rattle.memory.specs.Meaning.{Meaning}
use Rattle.memory.specs.Calls.{stored}
use Rattle.memory.specs.Reach.{Call, after_calls, bytes_after}
use Rattle.mapping.specs.Rules.{Layout}
use Rattle.page_table.specs.Walk.{windowed}
use Rattle.card_c.specs.declared.answer.CardRefusal.{CardRefusal}
use Rattle.card_c.specs.declared.setup.CachePlace.{CachePlace}
use Rattle.card_c.specs.declared.setup.CachePlace.TheVariants.{Absent, Under, Over}
use Rattle.card_c.specs.declared.setup.CardSetup.{CardSetup}
use Rattle.card_c.specs.declared.setup.Choices.{Choices}
use Rattle.card_c.specs.Setup.{choices, rules_of, meaning_of, updated_of, layout_by}
use Rattle.card_c.specs.Called.{after}

pub record BytesAfter (meaning : List ℕ → Meaning) (updated : List ℕ → ℕ → List ℕ → List ℕ) (n : Meaning) (xs ys : List ℕ) : Type 0 where
  pub cells : meaning ys ≡ n
  pub calls : List Call
  pub bytes : ys ≡ after_calls (bytes_after updated) xs calls

abbrev pub BytesAt : CachePlace → (List ℕ → Meaning) → (List ℕ → ℕ → List ℕ → List ℕ) → Layout → ℕ → List Call → List ℕ → List ℕ → Type 0
BytesAt Absent meaning updated l board cs xs ys = BytesAfter meaning updated (after l board cs (meaning xs)) xs ys
BytesAt Under meaning updated l board cs xs ys = length ys ≡ length xs
BytesAt Over meaning updated l board cs xs ys = length ys ≡ length xs

abbrev pub BytesBy : CachePlace → (List ℕ → Meaning) → (List ℕ → ℕ → List ℕ → List ℕ) → Result Layout CardRefusal → ℕ → List Call → List ℕ → List ℕ → Type 0
BytesBy p meaning updated (Ok l) board cs xs ys = BytesAt p meaning updated l board cs xs ys
BytesBy p meaning updated (Err e) board cs xs ys = ys ≡ xs

abbrev pub BytesOn : CardSetup → ℕ → List Call → List ℕ → List ℕ → Result Choices CardRefusal → Type 0
BytesOn s board cs xs ys (Ok c) = BytesBy c.cache (meaning_of c.format) (updated_of c.format) (layout_by (rules_of c.mapping) s.registers) board cs xs ys
BytesOn s board cs xs ys (Err e) = ys ≡ xs

abbrev pub BytesLeft : CardSetup → List ℕ → ℕ → List Call → List ℕ → Type 0
BytesLeft s xs board cs ys = BytesOn s board cs xs ys (choices s.mapping s.format s.cache)

abbrev pub KeptAt : CachePlace → List ℕ → List ℕ → Type 0
KeptAt Absent xs ys = ys ≡ xs
KeptAt Under xs ys = length ys ≡ length xs
KeptAt Over xs ys = ys ≡ xs

abbrev pub KeptOn : List ℕ → List ℕ → Result Choices CardRefusal → Type 0
KeptOn xs ys (Ok c) = KeptAt c.cache xs ys
KeptOn xs ys (Err e) = ys ≡ xs

abbrev pub BytesKept : CardSetup → List ℕ → List ℕ → Type 0
BytesKept s xs ys = KeptOn xs ys (choices s.mapping s.format s.cache)

abbrev pub WrittenAt : CachePlace → Layout → Meaning → Meaning → ℕ → List ℕ → Type 0
WrittenAt Absent l m n a bs = windowed l n ≡ stored (windowed l m) a bs
WrittenAt Under l m n a bs = Unit {0}
WrittenAt Over l m n a bs = Unit {0}

abbrev pub WrittenBy : CachePlace → Result Layout CardRefusal → Meaning → Meaning → ℕ → List ℕ → Type 0
WrittenBy p (Ok l) m n a bs = WrittenAt p l m n a bs
WrittenBy p (Err e) m n a bs = Unit {0}

abbrev pub WrittenOn : CardSetup → List ℕ → List ℕ → ℕ → List ℕ → Result Choices CardRefusal → Type 0
WrittenOn s xs ys a bs (Ok c) = WrittenBy c.cache (layout_by (rules_of c.mapping) s.registers) (meaning_of c.format xs) (meaning_of c.format ys) a bs
WrittenOn s xs ys a bs (Err e) = Unit {0}

abbrev pub CardWritten : CardSetup → List ℕ → List ℕ → ℕ → List ℕ → Type 0
CardWritten s xs ys a bs = WrittenOn s xs ys a bs (choices s.mapping s.format s.cache)
