-- Assumes nothing.
use Rattle.std.proofs.Common.{◌≡◌, ◌∙◌, rules}
use Rattle.std.specs.List.{fold}
use lib.Bits.{bit_xor, xor_zero_l}
use Rattle.checked.proofs.Xors.{xor_fold}
use Rattle.checked.proofs.checked.exclusive_or.Goals as goal

pub returns : goal.returns
returns c =
    let folded : c.fold.result ≡ fold bit_xor 0 c.args.bytes.now = search rules in
    folded ∙ xor_fold 0 c.args.bytes.now ∙ xor_zero_l _
