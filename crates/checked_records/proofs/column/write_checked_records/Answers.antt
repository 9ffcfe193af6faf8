-- The loan is the same, and its bytes are those that the writes leave. Assumes nothing.
use Rattle.std.proofs.Common.{rules}
use Rattle.memory.specs.Reach.{bytes_after}
use Rattle.memory.proofs.Owners.{linked_over, reached_bytes}
use Rattle.checked.specs.Checked.{updated}
use Rattle.checked_records.specs.Rest.{RestKept}
use Rattle.checked_records.proofs.Rests.{rest_none, rest_step}
use Rattle.checked_records.proofs.column.write_checked_records.Goals as goal

pub returns-clause-cells : goal.returns-clause-cells
returns-clause-cells c =
    let over = linked_over (λ m. m.bytes) (bytes_after updated) c.new-memory.result c.write_records.new.memory _ c.write_records.ensures.calls in
    search rules

pub returns-clause-bytes : goal.returns-clause-bytes
returns-clause-bytes c =
    let over = linked_over (λ m. m.bytes) (bytes_after updated) c.new-memory.result c.write_records.new.memory _ c.write_records.ensures.calls in
    search rules

pub returns-clause-rest : goal.returns-clause-rest
returns-clause-rest c =
    let before = c.new-memory.result in
    let after = c.write_records.new.memory in
    let over = linked_over (λ m. m.bytes) (bytes_after updated) before after _ c.write_records.ensures.calls in
    let kept = reached_bytes (λ m. m.bytes) (bytes_after updated) RestKept rest_none rest_step before after c.write_records.ensures.reached in
    search rules
