-- The transpose mapping keeps the laws. Assumes nothing.
use Rattle.std.specs.Prelude.{◌≡◌, ℕ, ◌+◌, ◌*◌, ◌/◌, ◌%◌, ◌^◌, ◌<◌, ◌≤◌, true, ◌&&◌, List, Some, nat_le, refl}
use Rattle.std.proofs.Common.{sym, ap, ◌∙◌, mul_assoc, mul-div_cancel, add-mul, arith}
use Rattle.std.proofs.Math.Nat.{div-div-eq-div-mul, mul-mod_left, mod-mod_of_dvd, dvd_of_mod-eq-zero, div-mul_cancel}
use Rattle.std.proofs.lemmas.Nat.{div-mul-add, mod-mul-add, mod_below, mul-le}
use Rattle.std.proofs.lemmas.Bool.{and_parts, leb-true, eqb-true}
use Rattle.mapping.specs.Rules.{image_size, divides}
use Rattle.mapping.proofs.Laws.{Tested, Addressed}
use Rattle.mapping.proofs.Multiples.{times_multiple, multiple_room, skip_multiple, quotient_below, rows_apart, split_apart, row_below}
use Rattle.units.specs.Power.{is_power_of_two}
use Rattle.units.proofs.Powers.{power_some}
use Rattle.mapping.specs.Element.{is_element_size}
use Rattle.transpose.specs.Transpose.{address, extent, condition, element_size, row_size, row_count, transpose_rules}
use Rattle.mapping.proofs.Elements.{Sized, is_sized}

-- what the condition tells
pub record Conditioned (I B D N : ℕ) : Type 0 where
  pub size : Sized B
  pub some : 0 < N
  pub rows : D % B ≡ 0
  pub whole : I % (B * N) ≡ 0
  pub room : I / N ≤ D

pub is_conditioned : (I B D N : ℕ) → condition I B D N ≡ true → Conditioned I B D N
is_conditioned I B D N passed =
    let a = and_parts (is_element_size B && is_power_of_two N && divides B D && divides (B * N) I) (nat_le (I / N) D) passed in
    let b = and_parts (is_element_size B && is_power_of_two N && divides B D) (divides (B * N) I) a.0 in
    let c = and_parts (is_element_size B && is_power_of_two N) (divides B D) b.0 in
    let d = and_parts (is_element_size B) (is_power_of_two N) c.0 in
    record {
      size = is_sized B d.0;
      some = power_some N d.1;
      rows = eqb-true (D % B) 0 c.1;
      whole = eqb-true (I % (B * N)) 0 b.1;
      room = leb-true (I / N) D a.1;
    }

module _ (I B D N : ℕ) (c : Conditioned I B D N) where
  -- the part of a row that is shown is as many elements as there are columns
  columns : I / (B * N) * B ≡ I / N
  columns =
      let all : I / (B * N) * (B * N) ≡ I = div-mul_cancel (B * N) (dvd_of_mod-eq-zero (B * N) c.whole) in
      let parts : I / (B * N) * B * N ≡ I = mul_assoc (I / (B * N)) B N ∙ all in
      sym (mul-div_cancel (I / (B * N) * B) c.some) ∙ ap (λ n. n / N) parts

  -- a byte stands before the end of what is shown of its row
  rest : (s : ℕ) → s < I → s / B / N * B + s % B < I / N
  rest s below =
      let size = c.size in
      let some = c.some in
      let left = mod_below s B (omega arith) in
      let both : s / B / N ≡ s / (B * N) = div-div-eq-div-mul s B N in
      let cell : 0 < B * N = mul-le 1 1 B N (omega arith) (omega arith) in
      let column = quotient_below s I (B * N) cell c.whole below in
      let before = mul-le (s / B / N + 1) B (I / (B * N)) B (omega arith) (omega arith) in
      omega (arith, add-mul (s / B / N) 1 B, columns)

  pub within : (s : ℕ) → s < I → address B D N s < extent I D N
  within s below =
      let end = rest s below in
      let line = row_below (s / B % N) N D (mod_below (s / B) N c.some) in
      omega arith

  pub apart : (s t : ℕ) → s < I → t < I → address B D N s ≡ address B D N t → s ≡ t
  apart s t first second same =
      let size = c.size in
      let room = c.room in
      let p = rest s first in
      let q = rest t second in
      let line = rows_apart (s / B % N) (s / B / N * B + s % B) (t / B % N) (t / B / N * B + t % B) D (omega arith) (omega arith) (omega arith) in
      let column = rows_apart (s / B / N) (s % B) (t / B / N) (t % B) B (mod_below s B (omega arith)) (mod_below t B (omega arith)) line.1 in
      split_apart s t B (split_apart (s / B) (t / B) N column.0 line.0) column.1

  pub follows : (k i : ℕ) → i < B → address B D N (k * B + i) ≡ k % N * D + k / N * B + i
  follows k i small = rw (div-mul-add k B i small, mod-mul-add k B i small) refl

  pub start : (k : ℕ) → address B D N (k * B) ≡ k % N * D + k / N * B
  start k =
      let size = c.size in
      let zero = follows k 0 (omega arith) in
      let same : k * B + 0 ≡ k * B = omega arith in
      ap (address B D N) (sym same) ∙ zero ∙ omega arith

  -- an element starts at a multiple of its size, and so ends in the line where it starts
  pub line : (k : ℕ) → (k % N * D + k / N * B) % 128 + B ≤ 128
  line k =
      let size = c.size in
      let v = k % N * D + k / N * B in
      let even : v % B ≡ 0 = skip_multiple (k % N * D) (k / N * B) B (times_multiple (k % N) D B c.rows) ∙ mul-mod_left (k / N) B in
      let inner : v % 128 % B ≡ 0 = mod-mod_of_dvd B v (dvd_of_mod-eq-zero B size.fills) ∙ even in
      multiple_room (v % 128) 128 B inner size.fills (mod_below v 128 (omega arith))

pub is_addressed : (rs : List ℕ) → Tested transpose_rules rs → Addressed transpose_rules rs
is_addressed rs t =
    let I = image_size rs in
    let B = element_size rs in
    let D = row_size rs in
    let N = row_count rs in
    let c = is_conditioned I B D N t.condition in
    record {
      grain_power = c.size.power;
      grain_least = c.size.least;
      grain_most = c.size.most;
      within = λ s v below found. let here : address B D N s ≡ v = cc in let far = within I B D N c s below in omega arith;
      apart = λ s t v first second one two. let same : address B D N s ≡ address B D N t = cc in apart I B D N c s t first second same;
      follows = λ k i small. ap Some (follows I B D N c k i small ∙ ap (λ n. n + i) (sym (start I B D N c k)));
      line = λ k v found. let here : k % N * D + k / N * B ≡ v = sym (start I B D N c k) ∙ cc in let end = line I B D N c k in omega (arith, ap (λ n. n % 128) here);
    }

-- a place of the image has 64 bits
pub low : (rs : List ℕ) → Tested transpose_rules rs → (s : ℕ) → s < image_size rs → address (element_size rs) (row_size rs) (row_count rs) s < 2 ^ 64
low rs t s below =
    let far = within (image_size rs) (element_size rs) (row_size rs) (row_count rs) (is_conditioned (image_size rs) (element_size rs) (row_size rs) (row_count rs) t.condition) s below in
    let most = t.extent_most in
    omega arith
