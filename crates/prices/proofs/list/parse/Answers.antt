-- Assumes nothing.
use Rattle.std.proofs.Common.{[], ◌∷◌, ◌==◌, rules, arith}
use Rattle.std.proofs.lemmas.Bool.Decides.{Decides-eqb}
use Rattle.std.proofs.lemmas.List.Sorted.{answers_always}
use Rattle.std.proofs.lemmas.Slice.Eq.{strip_suffix_is}
use Rattle.std.proofs.lemmas.Grind.{common_steps}
use Rattle.prices.proofs.Texts.{before_push, first_price, is_told, read_most}
use Rattle.prices.proofs.list.parse.Goals as goal

pub returns-in_err-read_line : goal.returns-in_err-read_line
returns-in_err-read_line c =
    let cut = c.in-Some.ensures.steps.1 in
    let feed = (cut.1.2 (λ b. b == 10) (answers_always _ _ _ (λ f a r f' k. search rules))).1 in
    let strips = strip_suffix_is Decides-eqb _ (10 ∷ []) c.strip_suffix.result c.strip_suffix.ensures.cases in
    let first = first_price _ _ cut.0 cut.1.1 feed cut.2 c.in-Some.number _ _ strips c.unwrap_or-line.ensures in
    grind (arith, common_steps, first, is_told)

pub loop-number-preserved : goal.loop-number-preserved
loop-number-preserved c =
    let cut = c.in-Some.ensures.steps.1 in
    let feed = (cut.1.2 (λ b. b == 10) (answers_always _ _ _ (λ f a r f' k. search rules))).1 in
    let strips = strip_suffix_is Decides-eqb _ (10 ∷ []) c.strip_suffix.result c.strip_suffix.ensures.cases in
    let first = first_price _ _ cut.0 cut.1.1 feed cut.2 c.in-Some.number _ _ strips c.unwrap_or-line.ensures in
    grind (arith, common_steps, first, before_push, read_most)
