-- A byte in a page whose entry is held. Assumes nothing.
-- Follows l s k held spot: the byte s of the image lies in the page k, and stands at the spot by the entry that is held
use Rattle.std.specs.Prelude.{◌≡◌, ℕ, ◌+◌, ◌*◌, ◌/◌, ◌%◌, Some, Option}
use Rattle.mapping.specs.Rules.{Layout}
use Rattle.page_table.specs.declared.entry.Entry.{Entry}
use Rattle.walk.specs.declared.spot.Spot.{Spot}

pub record Follows (l : Layout) (s k : ℕ) (held : Option Entry) (spot : Spot) : Type 0 where
  pub entry : Entry
  pub holds : held ≡ Some entry
  pub place : ℕ
  pub at : l.place s ≡ Some place
  pub within : place / 4096 ≡ k
  pub page : spot.page ≡ k
  pub address : spot.address.0 ≡ entry.frame * 4096 + place % 4096
