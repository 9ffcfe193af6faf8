-- Registers by number: which writes are refused, and what the others leave. Assumes nothing.
-- The values of a mapping's registers are a list of numbers, and their widths a list as long; register n is the one at index n.
-- Fits ws rs: there are as many values as widths, and each value is below 2 ^ its width
-- cleared ws: all registers 0
-- width_answer w v: acceptance of the value v by a register of w bits, or the refusal
-- register_after w x v: what a register of w bits that held x holds after the value v is offered
-- register_answer ws n v: acceptance of the value v for register n, or the refusal
-- registers_after ws rs n v: the registers rs after that write
-- Fits_prop: a fact has one proof at most, which a ghost field asks of it
use Rattle.std.specs.Prelude.{ℕ, ◌^◌, ◌<◌, cond, List, [], ◌∷◌, length, replicate, is_ok, Ok, Err, Result, nat_lt, slice_index, slice_set}
use Rattle.std.specs.Coded.{×_prop, Unit-prop, le_prop}
use Rattle.mapping.specs.declared.refusal.RegisterRefusal.{RegisterRefusal}
use Rattle.mapping.specs.declared.refusal.RegisterRefusal.TheVariants.{NoRegister, TooWide}

abbrev pub Fits : (widths values : List ℕ) → Type 0
Fits [] [] = Unit {0}
Fits [] (v ∷ vs) = ⊥
Fits (w ∷ ws) [] = ⊥
Fits (w ∷ ws) (v ∷ vs) = (v < 2 ^ w) × Fits ws vs

abbrev pub cleared : List ℕ → List ℕ
cleared ws = replicate (length ws) 0

abbrev pub width_answer : ℕ → ℕ → Result (Unit {0}) RegisterRefusal
width_answer w v = cond (nat_lt v (2 ^ w)) (Ok tt) (Err TooWide)

abbrev pub register_after : ℕ → ℕ → ℕ → ℕ
register_after w x v = cond (is_ok (width_answer w v)) v x

abbrev pub register_answer : List ℕ → ℕ → ℕ → Result (Unit {0}) RegisterRefusal
register_answer ws n v = cond (nat_lt n (length ws)) (width_answer (slice_index ws n) v) (Err NoRegister)

abbrev pub registers_after : List ℕ → List ℕ → ℕ → ℕ → List ℕ
registers_after ws rs n v = cond (is_ok (register_answer ws n v)) (slice_set rs n v) rs

pub Fits_prop : (ws rs : List ℕ) → IsProp (Fits ws rs)
Fits_prop [] [] = Unit-prop
Fits_prop [] (v ∷ vs) = λ a b. absurd a
Fits_prop (w ∷ ws) [] = λ a b. absurd a
Fits_prop (w ∷ ws) (v ∷ vs) = ×_prop le_prop (Fits_prop ws vs)
