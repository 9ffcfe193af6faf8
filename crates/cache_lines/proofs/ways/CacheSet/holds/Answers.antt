use Rattle.std.proofs.Common.{◌||◌, sym, ap, ◌∙◌}
use Rattle.cache_lines.specs.Lines.{is_line}
use Rattle.cache_lines.proofs.Changes.{holds_pair}
use Rattle.cache_lines.proofs.ways.CacheSet.holds.Goals as goal

pub returns-then-is_line : goal.returns-then-is_line
returns-then-is_line c =
    let a = c.args.self.now.newer in
    let b = c.args.self.now.older in
    c.if-is_line.true ∙ ap (λ t. t || is_line b c.args.number) (sym c.if-is_line.true ∙ c.is_line.ensures) ∙ holds_pair c.args.number a b

pub returns-else-is_line : goal.returns-else-is_line
returns-else-is_line c =
    let a = c.args.self.now.newer in
    let b = c.args.self.now.older in
    c.is_line-else-is_line.ensures ∙ ap (λ t. t || is_line b c.args.number) (sym c.if-is_line.false ∙ c.is_line.ensures) ∙ holds_pair c.args.number a b
