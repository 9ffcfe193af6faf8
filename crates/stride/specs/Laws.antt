-- The stride mapping keeps the laws. Assumes nothing.
use Rattle.std.specs.Prelude.{◌≡◌, ℕ, ◌+◌, ◌*◌, ◌/◌, ◌%◌, ◌<◌, ◌≤◌, true, not, ◌&&◌, List, Some, ◌==◌, nat_le, refl}
use Rattle.std.proofs.Common.{sym, ap, ◌∙◌, arith}
use Rattle.std.proofs.lemmas.Nat.{div-mul-add, mod-mul-add, mod_below}
use Rattle.std.proofs.lemmas.Bool.{and_parts, leb-true, eqb-true}
use Rattle.mapping.specs.Rules.{image_size, divides}
use Rattle.mapping.proofs.Laws.{Tested, Addressed}
use Rattle.mapping.proofs.Multiples.{times_multiple, multiple_trans, skip_multiple, quotient_below, rows_apart, split_apart, row_below}
use Rattle.mapping.specs.Element.{is_element_size}
use Rattle.stride.specs.Stride.{address, extent, condition, object_size, stride, object_offset, stride_rules}
use Rattle.mapping.proofs.Elements.{Sized, is_sized}

-- what the condition tells
record Conditioned (B D F : ℕ) : Type 0 where
  size : Sized B
  lines : D % 128 ≡ 0
  room : F + B ≤ D
  line : F % 128 + B ≤ 128

is_conditioned : (B D F : ℕ) → condition B D F ≡ true → Conditioned B D F
is_conditioned B D F passed =
    let a = and_parts (is_element_size B && not (D == 0) && divides 128 D && nat_le (F + B) D) (nat_le (F % 128 + B) 128) passed in
    let b = and_parts (is_element_size B && not (D == 0) && divides 128 D) (nat_le (F + B) D) a.0 in
    let c = and_parts (is_element_size B && not (D == 0)) (divides 128 D) b.0 in
    let d = and_parts (is_element_size B) (not (D == 0)) c.0 in
    record { size = is_sized B d.0; lines = eqb-true (D % 128) 0 c.1; room = leb-true (F + B) D b.1; line = leb-true (F % 128 + B) 128 a.1 }

module _ (B D F : ℕ) (c : Conditioned B D F) where
  rest : (s : ℕ) → F + s % B < D
  rest s = let size = c.size in let below = mod_below s B (omega arith) in omega arith

  within : (I s : ℕ) → I % B ≡ 0 → s < I → address B D F s < extent I B D F
  within I s whole below =
      let size = c.size in
      let left = mod_below s B (omega arith) in
      let row = row_below (s / B) (I / B) D (quotient_below s I B (omega arith) whole below) in
      omega arith

  apart : (s t : ℕ) → address B D F s ≡ address B D F t → s ≡ t
  apart s t same =
      let both = rows_apart (s / B) (F + s % B) (t / B) (F + t % B) D (rest s) (rest t) (omega arith) in
      split_apart s t B both.0 (omega (arith, both.1))

  follows : (k i : ℕ) → i < B → address B D F (k * B + i) ≡ k * D + F + i
  follows k i small = rw (div-mul-add k B i small, mod-mul-add k B i small) refl

  first : (k : ℕ) → address B D F (k * B) ≡ k * D + F
  first k =
      let size = c.size in
      let start : k * B + 0 ≡ k * B = omega arith in
      let zero = follows k 0 (omega arith) in
      ap (address B D F) (sym start) ∙ zero ∙ omega arith

  line : (k : ℕ) → (k * D + F) % 128 + B ≤ 128
  line k = rw (skip_multiple (k * D) F 128 (times_multiple k D 128 c.lines)) c.line

pub is_addressed : (rs : List ℕ) → Tested stride_rules rs → Addressed stride_rules rs
is_addressed rs t =
    let B = object_size rs in
    let D = stride rs in
    let F = object_offset rs in
    let c = is_conditioned B D F t.condition in
    let size = c.size in
    let whole = multiple_trans B 128 (image_size rs) size.fills t.image_lines in
    record {
      grain_power = size.power;
      grain_least = size.least;
      grain_most = size.most;
      within = λ s v below found. let here : address B D F s ≡ v = cc in let far = within B D F c (image_size rs) s whole below in omega arith;
      apart = λ s t v _ _ one two. let same : address B D F s ≡ address B D F t = cc in apart B D F c s t same;
      follows = λ k i small. ap Some (follows B D F c k i small ∙ ap (λ n. n + i) (sym (first B D F c k)));
      line = λ k v found. let here : k * D + F ≡ v = sym (first B D F c k) ∙ cc in let end = line B D F c k in omega (arith, ap (λ n. n % 128) here);
    }
