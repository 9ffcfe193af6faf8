-- The loan is the same, and reads alone were made. Assumes nothing.
use Rattle.std.proofs.Common.{rules}
use Rattle.card_c.proofs.Owned.{only_read_over}
use Rattle.card_c.proofs.check.check_bare.Goals as goal

pub returns-clause-bytes : goal.returns-clause-bytes
returns-clause-bytes g c =
    let over = only_read_over (λ m. m.bytes) g.F.LineFormat.updated c.new-below.result c.check_memory.new.below c.check_memory.ensures.reads in
    search rules
