-- What a caller's bytes are once a memory over them was lent. Assumes nothing.
use Rattle.std.proofs.Common.{◌≡◌, ℕ, List, [], ◌∷◌, refl, ap, ◌∙◌}
use Rattle.std.specs.Borrow.{MutBor}
use Rattle.memory.specs.Bytes.{Over}
use Rattle.memory.specs.Meaning.{Meaning}
use Rattle.memory.specs.Reach.{Call, reading, writing, AllReads, OnlyRead, after_calls, bytes_after}
use Rattle.memory.specs.Calls.{stored}
use Rattle.page_table.specs.Walk.{windowed}
use Rattle.memory.proofs.Owners.{OverStep, linked_over}
use Rattle.mapping.specs.Rules.{Layout}
use Rattle.card_c.specs.Called.{after}
use Rattle.card_c.specs.Bytes.{BytesAfter}

reads_keep : (updated : List ℕ → ℕ → List ℕ → List ℕ) (xs : List ℕ) (cs : List Call) → AllReads cs → after_calls (bytes_after updated) xs cs ≡ xs
unfolding AllReads after_calls
reads_keep updated xs [] reads = refl
reads_keep updated xs (reading a b ∷ cs) reads = reads_keep updated xs cs reads
reads_keep updated xs (writing a bs ∷ cs) reads = absurd reads

pub only_read_over : {S : Type 0} (lent : S → MutBor (List ℕ)) (updated : List ℕ → ℕ → List ℕ → List ℕ) (s t : S) → OnlyRead (OverStep lent (bytes_after updated)) s t → Over (lent t) (lent s).now (lent s)
only_read_over lent updated s t p =
    let over = linked_over lent (bytes_after updated) s t p.calls p.linked in
    record { holds = over.holds ∙ reads_keep updated (lent s).now p.calls p.reads; owner = over.owner }

-- the bytes xs became the state `made` of a memory, calls led that to `left`, and it came back as ys
pub bytes_led : (meaning : List ℕ → Meaning) (updated : List ℕ → ℕ → List ℕ → List ℕ) (board : ℕ) (cs : List Call) (xs ys : List ℕ) (l : Layout) (made left : List ℕ) (calls : List Call)
    → made ≡ xs → left ≡ after_calls (bytes_after updated) made calls → meaning left ≡ after l board cs (meaning made) → ys ≡ left → BytesAfter meaning updated (after l board cs (meaning xs)) xs ys
bytes_led meaning updated board cs xs ys l made left calls same led means back = record {
  cells = ap meaning back ∙ means ∙ ap (λ zs. after l board cs (meaning zs)) same;
  calls = calls;
  bytes = back ∙ led ∙ ap (λ zs. after_calls (bytes_after updated) zs calls) same;
}

-- a store into the cells of a window so lent
pub image_stored : (meaning : List ℕ → Meaning) (l : Layout) (xs ys made left : List ℕ) (a : ℕ) (bs : List ℕ) → made ≡ xs → ys ≡ left
    → windowed l (meaning left) ≡ stored (windowed l (meaning made)) a bs → windowed l (meaning ys) ≡ stored (windowed l (meaning xs)) a bs
image_stored meaning l xs ys made left a bs same back is =
    ap (λ zs. windowed l (meaning zs)) back ∙ is ∙ ap (λ zs. stored (windowed l (meaning zs)) a bs) same
