use Rattle.std.proofs.Common.{◌++◌, is_some, sym, ap, ◌∙◌}
use Rattle.std.specs.Option.{option_map}
use Rattle.cache_lines.specs.declared.line.CacheLine.{CacheLine}
use Rattle.cache_lines.specs.Lines.{listed, copied_from, hit_in, found_in}
use Rattle.cache_lines.proofs.Changes.{hit_newer, hit_older}
use Rattle.cache_lines.proofs.ways.CacheSet.hit.Goals as goal

pub returns-then-is_some : goal.returns-then-is_some
returns-then-is_some c =
    let a = c.args.self.now.newer in
    let b = c.args.self.now.older in
    let h = hit_newer c.args.number a b (ap is_some (sym c.hit_way-first.ensures.first) ∙ sym c.is_some.ensures ∙ c.if-is_some.true) in
    record {
      first = c.hit_way-first.ensures.first ∙ ap (option_map (λ (x : CacheLine). x.prefetched)) h.finds;
      buffer = c.hit_way-first.ensures.buffer ∙ ap (λ o. copied_from o c.args.at c.args.buffer.now) h.finds;
      lines = ap (λ o. listed o ++ listed b) c.hit_way-first.ensures.way ∙ h.settles;
    }

pub returns : goal.returns
returns c =
    let a = c.args.self.now.newer in
    let b = c.args.self.now.older in
    let h = hit_older c.args.number a b (ap is_some (sym c.hit_way-first.ensures.first) ∙ sym c.is_some.ensures ∙ c.if-is_some.false) in
    let kept = c.hit_way-first.ensures.buffer ∙ h.copies c.args.at c.args.buffer.now in
    record {
      first = c.hit_way.ensures.first ∙ ap (option_map (λ (x : CacheLine). x.prefetched)) h.finds;
      buffer = c.hit_way.ensures.buffer ∙ ap (copied_from (found_in b c.args.number) c.args.at) kept ∙ ap (λ o. copied_from o c.args.at c.args.buffer.now) h.finds;
      lines =
          ap (λ o. listed o ++ listed c.hit_way.new.way) c.hit_way-first.ensures.way
          ∙ ap (λ o. listed (hit_in a c.args.number) ++ listed o) c.hit_way.ensures.way ∙ h.settles;
    }
