-- The meaning of a window that was opened, by the values of its registers. Assumes nothing.
use Rattle.std.proofs.Common.{◌≡◌, ℕ, List, Some, Option, Result, is_ok, ap, ◌∙◌}
use Rattle.std.specs.Option.{option_map}
use Rattle.memory.specs.Meaning.{Meaning}
use Rattle.mapping.specs.Rules.{Rules, Layout, layout_of}
use Rattle.page_table.specs.Table.{table_of}
use Rattle.page_table.specs.Walk.{shown}
use Rattle.opening.specs.declared.reason.OpeningRefusal.{OpeningRefusal}
use Rattle.opening.specs.Opening.{check_opening}
use Rattle.bench_calls.specs.Image.{seen}

pub image_is : (rules : Rules) (o : Result (Unit {0}) OpeningRefusal) (k l : Layout) (m w : Meaning) (n : ℕ) (rs : List ℕ) (r : Option (List ℕ)) →
    k ≡ l → l ≡ layout_of rules rs → o ≡ check_opening (table_of l) m n → w ≡ m → Some rs ≡ r →
    Some (shown (is_ok o) k w) ≡ option_map (λ vs. seen (layout_of rules vs) m n) r
image_is rules o k l m w n rs r same layout opening below values =
    let is_open = ap is_ok (opening ∙ ap (λ x. check_opening (table_of x) m n) layout) in
    ap (λ b. Some (shown b k w)) is_open
    ∙ ap (λ x. Some (shown (is_ok (check_opening (table_of (layout_of rules rs)) m n)) x w)) (same ∙ layout)
    ∙ ap (λ x. Some (shown (is_ok (check_opening (table_of (layout_of rules rs)) m n)) (layout_of rules rs) x)) below
    ∙ ap (λ v. option_map (λ vs. seen (layout_of rules vs) m n) v) values
