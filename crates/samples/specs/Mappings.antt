-- Worked examples of the mappings, over their definitions. Assumes nothing.
-- A list is what the registers hold by their numbers: the image size, the table page, and the mapping's own three.
-- sparse, vast, paged i, middle b, matrix, third: the registers of the examples
-- arming_number rules rs: acceptance of the registers rs, or the number of the refusal
-- MappingExamples: places, extents and refusals of these registers
use Rattle.std.specs.Prelude.{◌≡◌, ℕ, List, [], ◌∷◌, Some, None, Ok, Err, Result}
use Rattle.std.specs.Result.{result_map_both}
use Rattle.mapping.specs.Refusal.{arming_refusal_number}
use Rattle.mapping.specs.Rules.{Rules, placed}
use Rattle.mapping.specs.Arming.{check_arming}
use Rattle.colour.specs.Colour.{colour_rules}
use Rattle.stride.specs.Stride.{stride_rules}
use Rattle.transpose.specs.Transpose.{transpose_rules}

-- objects of 4 bytes at offset 8 of strides of 128
abbrev pub sparse : List ℕ
sparse = 128 ∷ 0 ∷ 4 ∷ 128 ∷ 8 ∷ []

-- objects of 4 bytes in strides of 16384
abbrev pub vast : List ℕ
vast = 1048704 ∷ 0 ∷ 4 ∷ 16384 ∷ 0 ∷ []

-- an image of i bytes, of lines at the end of each page
abbrev pub paged : ℕ → List ℕ
paged i = i ∷ 0 ∷ 128 ∷ 4096 ∷ 3968 ∷ []

-- objects of b bytes at offset 64 of strides of 256
abbrev pub middle : ℕ → List ℕ
middle b = 128 ∷ 0 ∷ b ∷ 256 ∷ 64 ∷ []

-- elements of 4 bytes in 4 rows of 32
abbrev pub matrix : List ℕ
matrix = 128 ∷ 0 ∷ 4 ∷ 32 ∷ 4 ∷ []

-- the third page of each way of 4 pages
abbrev pub third : List ℕ
third = 32768 ∷ 0 ∷ 16384 ∷ 4096 ∷ 8192 ∷ []

abbrev pub arming_number : Rules → List ℕ → Result (Unit {0}) ℕ
arming_number rules rs = result_map_both (λ _. tt) arming_refusal_number (check_arming rules rs)

pub record MappingExamples : Type 0 where
  pub stride_second : placed stride_rules sparse 4 ≡ Some 136
  pub stride_last : placed stride_rules sparse 127 ≡ Some 3979
  pub stride_extent : stride_rules.extent sparse ≡ 3980
  -- past 32 bits
  pub stride_vast : stride_rules.extent vast ≡ 4295475204
  pub stride_arms : arming_number stride_rules (paged 536870912) ≡ Ok tt
  pub stride_far : arming_number stride_rules (paged 536871040) ≡ Err 15
  pub stride_fits : arming_number stride_rules (middle 64) ≡ Ok tt
  pub stride_crosses : arming_number stride_rules (middle 128) ≡ Err 14
  pub transpose_down : placed transpose_rules matrix 4 ≡ Some 32
  pub transpose_right : placed transpose_rules matrix 16 ≡ Some 4
  pub transpose_inner : placed transpose_rules matrix 22 ≡ Some 38
  pub colour_before : placed colour_rules third 8191 ≡ None
  pub colour_first : placed colour_rules third 8192 ≡ Some 0
  pub colour_second : placed colour_rules third 24576 ≡ Some 4096
