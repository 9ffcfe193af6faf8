-- The direct mapping keeps the laws. Assumes nothing.
use Rattle.std.specs.Prelude.{◌≡◌, ℕ, ◌*◌, List, refl}
use Rattle.std.proofs.Math.Nat.{mul-mod_left}
use Rattle.std.proofs.Common.{arith, lit≤}
use Rattle.mapping.proofs.Laws.{Tested, Addressed}
use Rattle.units.proofs.Powers.{power_pow}
use Rattle.direct.specs.Direct.{direct_rules}

pub is_addressed : (rs : List ℕ) → Tested direct_rules rs → Addressed direct_rules rs
is_addressed rs _ = record {
  grain_power = power_pow 7;
  grain_least = lit≤ tt;
  grain_most = lit≤ tt;
  within = λ s v inside found. let same : s ≡ v = cc in omega arith;
  apart = λ s t v _ _ first second. cc;
  follows = λ k i small. refl;
  line = λ k v found. let same : k * 128 ≡ v = cc in omega (arith, mul-mod_left k 128);
}
