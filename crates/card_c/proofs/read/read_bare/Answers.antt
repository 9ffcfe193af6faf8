-- The loan is the same, and its bytes are those that the calls of the window left. Assumes nothing.
use Rattle.std.proofs.Common.{rules}
use Rattle.memory.specs.Reach.{bytes_after}
use Rattle.memory.proofs.Owners.{linked_over}
use Rattle.card_c.proofs.Owned.{bytes_led}
use Rattle.card_c.proofs.read.read_bare.Goals as goal

pub returns-clause-bytes : goal.returns-clause-bytes
returns-clause-bytes g c =
    let reached = c.read_memory.ensures.reached in
    let over = linked_over (λ m. m.bytes) (bytes_after g.F.LineFormat.updated) c.new-below.result c.read_memory.new.below reached.calls reached.linked in
    bytes_led _ _ _ _ _ _ _ _ c.read_memory.new.below.bytes.now reached.calls c.new-below.ensures.bytes.holds over.holds c.read_memory.ensures.meaning (search rules)
