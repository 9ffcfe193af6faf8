-- Assumes nothing.
use Rattle.std.proofs.Common.{refl, rules}
use Rattle.cache.proofs.Copies.{mirrored_none, mirrored_as}
use Rattle.cache.proofs.layer.Cache.new.Goals as goal

pub returns-clause-standing : goal.returns-clause-standing
returns-clause-standing g c = record {
  below = c.requires;
  mirrored = mirrored_as refl c.new.ensures (mirrored_none (g.M.Memory.meaning c.args.below));
  steady = search rules;
}
