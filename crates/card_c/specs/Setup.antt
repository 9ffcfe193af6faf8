-- What the numbers of a caller choose. Assumes nothing.
-- mapping_type n, line_format n, cache_place n: what the number n chooses
-- choices mapping format cache: what all three choose, or the refusal of the first that chooses nothing
-- rules_of t: the rules of a mapping
-- meaning_of f bytes: the memory that the bytes mean by the format f
-- updated_of f bytes a bs: what the bytes are after a write of bs at a
-- layout_by rules registers: the layout by these values of the registers, or the refusal
-- offered n vs: what is written to the registers from the number n on: each value that is not 0
use Rattle.std.specs.Prelude.{ℕ, suc, cond, List, [], ◌∷◌, Some, None, Ok, Err, Option, Result, ◌==◌}
use Rattle.std.specs.Result.{result_map_both}
use Rattle.memory.specs.Meaning.{Meaning}
use Rattle.plain.specs.Plain.{plain_meaning}
use Rattle.plain.specs.Plain as plain
use Rattle.checked.specs.Checked.{checked_meaning}
use Rattle.checked.specs.Checked as checked
use Rattle.mapping.specs.Rules.{Rules, Layout, layout_of}
use Rattle.direct.specs.Direct.{direct_rules}
use Rattle.colour.specs.Colour.{colour_rules}
use Rattle.stride.specs.Stride.{stride_rules}
use Rattle.transpose.specs.Transpose.{transpose_rules}
use Rattle.card.specs.declared.refusal.RegisterWrite.{RegisterWrite}
use Rattle.card.specs.SetUp.{values_armed}
use Rattle.card_c.specs.declared.answer.CardRefusal.{CardRefusal}
use Rattle.card_c.specs.declared.setup.MappingType.{MappingType}
use Rattle.card_c.specs.declared.setup.MappingType.TheVariants.{Direct, Colour, Stride, Transpose}
use Rattle.card_c.specs.declared.setup.Format.{Format}
use Rattle.card_c.specs.declared.setup.Format.TheVariants.{Plain, Checked}
use Rattle.card_c.specs.declared.setup.CachePlace.{CachePlace}
use Rattle.card_c.specs.declared.setup.CachePlace.TheVariants.{Absent, Under, Over}
use Rattle.card_c.specs.declared.setup.Choices.{Choices}
use Rattle.card_c.specs.Answer.{unknown_choice, set_up_refused}

abbrev pub mapping_type : ℕ → Option MappingType
mapping_type n =
    cond (n == 1) (Some Direct)
    (cond (n == 2) (Some Colour)
    (cond (n == 3) (Some Stride)
    (cond (n == 4) (Some Transpose) None)))

abbrev pub line_format : ℕ → Option Format
line_format n = cond (n == 1) (Some Plain) (cond (n == 2) (Some Checked) None)

abbrev pub cache_place : ℕ → Option CachePlace
cache_place n = cond (n == 0) (Some Absent) (cond (n == 1) (Some Under) (cond (n == 2) (Some Over) None))

abbrev pub all_three : Option MappingType → Option Format → Option CachePlace → Result Choices CardRefusal
all_three None f p = Err (unknown_choice 31)
all_three (Some t) None p = Err (unknown_choice 32)
all_three (Some t) (Some f) None = Err (unknown_choice 33)
all_three (Some t) (Some f) (Some p) = Ok (record { mapping = t; format = f; cache = p })

abbrev pub choices : ℕ → ℕ → ℕ → Result Choices CardRefusal
choices mapping format cache = all_three (mapping_type mapping) (line_format format) (cache_place cache)

abbrev pub rules_of : MappingType → Rules
rules_of Direct = direct_rules
rules_of Colour = colour_rules
rules_of Stride = stride_rules
rules_of Transpose = transpose_rules

abbrev pub meaning_of : Format → List ℕ → Meaning
meaning_of Plain bytes = plain_meaning bytes
meaning_of Checked bytes = checked_meaning bytes

abbrev pub updated_of : Format → List ℕ → ℕ → List ℕ → List ℕ
updated_of Plain bytes a bs = plain.updated bytes a bs
updated_of Checked bytes a bs = checked.updated bytes a bs

unfoldable pub offered : ℕ → List ℕ → List RegisterWrite
offered n [] = []
offered n (v ∷ vs) = cond (v == 0) (offered (suc n) vs) (record { number = n; value = v } ∷ offered (suc n) vs)

abbrev pub layout_by : Rules → List ℕ → Result Layout CardRefusal
layout_by rules registers = result_map_both (layout_of rules) set_up_refused (values_armed rules (offered 0 registers))
