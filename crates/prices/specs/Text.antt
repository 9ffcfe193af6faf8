-- What is written of an error. Assumes nothing.
-- byte_text b: the byte b, by its name or as it stands, and its number
-- line_text k words: the words about the line k
-- error_text e: the message of the error e
use Rattle.std.specs.Prelude.{ℕ, cond, ◌&&◌, List, [], ◌∷◌, ◌++◌, codes, decimal, ◌==◌, nat_le}
use Rattle.prices.specs.declared.error.InputError.{InputError}
use Rattle.prices.specs.declared.error.InputError.TheVariants.{NoPrices, EmptyLine, NotADigit, TooLarge, TooMany, NoMemory}

-- 33 to 126 are the characters that show
abbrev pub byte_text : ℕ → List ℕ
byte_text b =
    cond (b == 13) (codes "a carriage return (byte 13)")
    (cond (nat_le 33 b && nat_le b 126) (codes "'" ++ (b ∷ []) ++ codes "' (byte " ++ decimal b ++ codes ")")
    (codes "byte " ++ decimal b))

abbrev pub line_text : ℕ → List ℕ → List ℕ
line_text k words = codes "line " ++ decimal k ++ words

abbrev pub error_text : InputError → List ℕ
error_text NoPrices = codes "line 1: there is no price at all"
error_text (EmptyLine k) = line_text k (codes ": the line is empty")
error_text (NotADigit k b) = line_text k (codes ": " ++ byte_text b ++ codes " is no digit")
error_text (TooLarge k) = line_text k (codes ": the price is 4294967296 or more")
error_text (TooMany k) = line_text k (codes ": there are more than 1024 prices")
error_text NoMemory = codes "there is not enough memory for the list"
