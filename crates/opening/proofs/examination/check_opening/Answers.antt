-- Assumes nothing.
use Rattle.std.proofs.Common.{rules, length}
use Rattle.page_table.specs.Table.{table_of}
use Rattle.opening.proofs.Tables.{opens_by}
use Rattle.opening.proofs.examination.check_opening.Goals as goal

pub returns-clause-opens : goal.returns-clause-opens
returns-clause-opens g c =
    opens_by (table_of (g.P.Mapping.meaning c.args.mapping.now)) (g.M.Memory.meaning c.args.below.now) (length c.args.board.now) _ (search rules)
