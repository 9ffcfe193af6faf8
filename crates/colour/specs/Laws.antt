-- The page colour mapping keeps the laws. Assumes nothing.
use Rattle.std.specs.Prelude.{◌≡◌, ℕ, ◌+◌, ◌-◌, ◌*◌, ◌/◌, ◌%◌, ◌<◌, ◌≤◌, true, cond, ◌&&◌, ltb, List, Some, None, nat_le, nat_lt, refl}
use Rattle.std.proofs.Common.{sym, ap, ◌∙◌, ⊎_elim, add-mul, arith, lit≤}
use Rattle.std.proofs.Math.Nat.{mul-mod_left, mod-mod_of_dvd, mod-eq-zero_of_dvd, dvd_of_mod-eq-zero, dvd-sub}
use Rattle.std.proofs.lemmas.Nat.{div-mul-add, mod-mul-add, mod_below, mul-le, div-add-mod'}
use Rattle.std.proofs.lemmas.Bool.{and_parts, and_from, and_left, and_right, leb-true, eqb-true, ltb-true, le-leb, lt-leb, lt-ltb, le-ltb, cond-true, cond-false, cases_lt, cases_Bool}
use Rattle.std.specs.Option.{option_map}
use Rattle.mapping.specs.Rules.{image_size, divides}
use Rattle.mapping.proofs.Laws.{Tested, Addressed}
use Rattle.mapping.proofs.Multiples.{times_multiple, multiple_trans, multiple_room, skip_multiple, quotient_below, rows_apart, split_apart}
use Rattle.units.specs.Power.{is_power_of_two}
use Rattle.units.proofs.Powers.{power_divides, power_pow}
use Rattle.colour.specs.Colour.{address, extent, condition, way_size, colour_size, colour_offset, colour_rules}

-- what the condition tells: way, colour and offset are whole lines, and whole ways fill the image
record Conditioned (I W C F : ℕ) : Type 0 where
  some : 0 < W
  way : W % 128 ≡ 0
  size : C % 128 ≡ 0
  offset : F % 128 ≡ 0
  room : F + C ≤ W
  whole : I % W ≡ 0

-- a power of two of at least a page is whole lines
lines : (n : ℕ) → is_power_of_two n ≡ true → 4096 ≤ n → n % 128 ≡ 0
lines n one large = power_divides 128 n (power_pow 7) one (omega arith)

is_conditioned : (I W C F : ℕ) → condition I W C F ≡ true → Conditioned I W C F
is_conditioned I W C F passed =
    let a = and_parts (is_power_of_two W && nat_le 4096 W && is_power_of_two C && nat_le 4096 C && divides 4096 F && nat_le (F + C) W) (divides W I) passed in
    let b = and_parts (is_power_of_two W && nat_le 4096 W && is_power_of_two C && nat_le 4096 C && divides 4096 F) (nat_le (F + C) W) a.0 in
    let c = and_parts (is_power_of_two W && nat_le 4096 W && is_power_of_two C && nat_le 4096 C) (divides 4096 F) b.0 in
    let d = and_parts (is_power_of_two W && nat_le 4096 W && is_power_of_two C) (nat_le 4096 C) c.0 in
    let e = and_parts (is_power_of_two W && nat_le 4096 W) (is_power_of_two C) d.0 in
    let f = and_parts (is_power_of_two W) (nat_le 4096 W) e.0 in
    let large = leb-true 4096 W f.1 in
    record {
      some = omega arith;
      way = lines W f.0 large;
      size = lines C e.1 (leb-true 4096 C d.1);
      offset = multiple_trans 128 4096 F refl (eqb-true (F % 4096) 0 c.1);
      room = leb-true (F + C) W b.1;
      whole = eqb-true (I % W) 0 a.1;
    }

-- an address inside the colour, and what its place is
record Shown (W C F s v : ℕ) : Type 0 where
  after : F ≤ s % W
  before : s % W < F + C
  place : s / W * C + (s % W - F) ≡ v

is_shown : (W C F s v : ℕ) → address W C F s ≡ Some v → Shown W C F s v
is_shown W C F s v found =
    let test = nat_le F (s % W) && ltb (s % W) (F + C) in
    ⊎_elim
    (λ inside.
    let both = and_parts (nat_le F (s % W)) (nat_lt (s % W) (F + C)) inside in
    let here = cond-true test (Some (s / W * C + s % W - F)) None inside in
    let same : s / W * C + s % W - F ≡ v = cc in
    let after = leb-true F (s % W) both.0 in
    record { after = after; before = ltb-true (s % W) (F + C) both.1; place = omega arith })
    (λ outside.
    let here = cond-false test (Some (s / W * C + s % W - F)) None outside in
    let z : ◌≡◌ {A = ℕ} 0 1 = cc in absurd (omega arith))
    (cases_Bool test)

module _ (I W C F : ℕ) (c : Conditioned I W C F) where
  within : (s v : ℕ) → s < I → address W C F s ≡ Some v → v < extent I W C
  within s v below found =
      let h = is_shown W C F s v found in
      let count = quotient_below s I W c.some c.whole below in
      let ways = mul-le (s / W + 1) C (I / W) C (omega arith) (omega arith) in
      omega (arith, add-mul (s / W) 1 C)

  apart : (s t v : ℕ) → address W C F s ≡ Some v → address W C F t ≡ Some v → s ≡ t
  apart s t v one two =
      let h = is_shown W C F s v one in
      let g = is_shown W C F t v two in
      let both = rows_apart (s / W) (s % W - F) (t / W) (t % W - F) C (omega arith) (omega arith) (omega arith) in
      split_apart s t W both.0 (omega (arith, both.1))

  -- the bytes of a line stand in one way
  split : (x i : ℕ) → x % 128 ≡ 0 → i < 128 → ((x + i) / W ≡ x / W) × ((x + i) % W ≡ x % W + i)
  split x i whole small =
      let inner : x % W % 128 ≡ 0 = mod-mod_of_dvd 128 x (dvd_of_mod-eq-zero 128 c.way) ∙ whole in
      let room = multiple_room (x % W) W 128 inner c.way (mod_below x W c.some) in
      let rest : x % W + i < W = omega arith in
      let same : x + i ≡ x / W * W + (x % W + i) = omega (arith, div-add-mod' x W) in
      (ap (λ n. n / W) same ∙ div-mul-add (x / W) W (x % W + i) rest, ap (λ n. n % W) same ∙ mod-mul-add (x / W) W (x % W + i) rest)

  -- a line stands inside the colour or outside, since the colour is whole lines
  edges : (r i : ℕ) → r % 128 ≡ 0 → i < 128 → (nat_le F (r + i) && nat_lt (r + i) (F + C)) ≡ (nat_le F r && nat_lt r (F + C))
  edges r i whole small =
      let end : (F + C) % 128 ≡ 0 = skip_multiple F C 128 c.offset ∙ c.size in
      ⊎_elim
      (λ early.
      let room = multiple_room r F 128 whole c.offset early in
      let still : r + i < F = omega arith in
      and_left (nat_le F (r + i)) (nat_lt (r + i) (F + C)) (lt-leb F (r + i) still) ∙ sym (and_left (nat_le F r) (nat_lt r (F + C)) (lt-leb F r early)))
      (λ late.
      let also : F ≤ r + i = omega arith in
      ⊎_elim
      (λ inside.
      let room = multiple_room r (F + C) 128 whole end inside in
      let still : r + i < F + C = omega arith in
      and_from (nat_le F (r + i)) (nat_lt (r + i) (F + C)) (le-leb F (r + i) also) (lt-ltb (r + i) (F + C) still)
      ∙ sym (and_from (nat_le F r) (nat_lt r (F + C)) (le-leb F r late) (lt-ltb r (F + C) inside)))
      (λ past.
      let still : F + C ≤ r + i = omega arith in
      and_right (nat_le F (r + i)) (nat_lt (r + i) (F + C)) (le-ltb (r + i) (F + C) still)
      ∙ sym (and_right (nat_le F r) (nat_lt r (F + C)) (le-ltb r (F + C) past)))
      (cases_lt r (F + C)))
      (cases_lt r F)

  -- the start of a line is a whole number of lines into its way
  even : (k : ℕ) → k * 128 % W % 128 ≡ 0
  even k = mod-mod_of_dvd 128 (k * 128) (dvd_of_mod-eq-zero 128 c.way) ∙ mul-mod_left k 128

  follows : (k i : ℕ) → i < 128 → address W C F (k * 128 + i) ≡ option_map (λ v. v + i) (address W C F (k * 128))
  follows k i small =
      let q = k * 128 / W in
      let r = k * 128 % W in
      let test = nat_le F r && ltb r (F + C) in
      let parts = split (k * 128) i (mul-mod_left k 128) small in
      let moved : address W C F (k * 128 + i) ≡ cond test (Some (q * C + (r + i) - F)) None = rw (parts.0, parts.1, edges r i (even k) small) refl in
      ⊎_elim
      (λ inside.
      let after = leb-true F r (and_parts (nat_le F r) (nat_lt r (F + C)) inside).0 in
      let sum : q * C + (r + i) - F ≡ q * C + r - F + i = omega arith in
      moved ∙ cond-true test (Some (q * C + (r + i) - F)) None inside ∙ ap Some sum
      ∙ sym (ap (option_map (λ v. v + i)) (cond-true test (Some (q * C + r - F)) None inside)))
      (λ outside.
      moved ∙ cond-false test (Some (q * C + (r + i) - F)) None outside
      ∙ sym (ap (option_map (λ v. v + i)) (cond-false test (Some (q * C + r - F)) None outside)))
      (cases_Bool test)

  line : (k v : ℕ) → address W C F (k * 128) ≡ Some v → v % 128 + 128 ≤ 128
  line k v found =
      let h = is_shown W C F (k * 128) v found in
      let q = k * 128 / W in
      let r = k * 128 % W in
      let inner : (r - F) % 128 ≡ 0 = mod-eq-zero_of_dvd 128 (dvd-sub 128 (dvd_of_mod-eq-zero 128 (even k)) (dvd_of_mod-eq-zero 128 c.offset)) in
      let whole : v % 128 ≡ 0 = sym (ap (λ n. n % 128) h.place) ∙ skip_multiple (q * C) (r - F) 128 (times_multiple q C 128 c.size) ∙ inner in
      omega arith

pub is_addressed : (rs : List ℕ) → Tested colour_rules rs → Addressed colour_rules rs
is_addressed rs t =
    let I = image_size rs in
    let W = way_size rs in
    let C = colour_size rs in
    let F = colour_offset rs in
    let c = is_conditioned I W C F t.condition in
    record {
      grain_power = power_pow 7;
      grain_least = lit≤ tt;
      grain_most = lit≤ tt;
      within = within I W C F c;
      apart = λ s t v _ _. apart I W C F c s t v;
      follows = follows I W C F c;
      line = line I W C F c;
    }
