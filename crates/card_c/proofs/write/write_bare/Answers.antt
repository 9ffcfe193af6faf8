-- The loan is the same, and its bytes are those that the calls of the window left. Assumes nothing.
use Rattle.std.proofs.Common.{rules}
use Rattle.memory.specs.Reach.{bytes_after}
use Rattle.memory.proofs.Owners.{linked_over}
use Rattle.card_c.proofs.Owned.{bytes_led, image_stored}
use Rattle.card_c.proofs.write.write_bare.Goals as goal

pub returns-clause-bytes : goal.returns-clause-bytes
returns-clause-bytes g c =
    let reached = c.write_memory.ensures.reached in
    let over = linked_over (λ m. m.bytes) (bytes_after g.F.LineFormat.updated) c.new-below.result c.write_memory.new.below reached.calls reached.linked in
    bytes_led _ _ _ _ _ _ _ _ c.write_memory.new.below.bytes.now reached.calls c.new-below.ensures.bytes.holds over.holds c.write_memory.ensures.meaning (search rules)

pub returns-clause-written : goal.returns-clause-written
returns-clause-written g c =
    let reached = c.write_memory.ensures.reached in
    let over = linked_over (λ m. m.bytes) (bytes_after g.F.LineFormat.updated) c.new-below.result c.write_memory.new.below reached.calls reached.linked in
    image_stored g.F.LineFormat.meaning (g.P.Mapping.meaning c.args.mapping.now) _ _ _ c.write_memory.new.below.bytes.now _ _ c.new-below.ensures.bytes.holds (search rules) c.write_memory.ensures.window
