-- The prices of a line, four bytes each. Assumes nothing.
use Rattle.std.proofs.Common.{◌≡◌, ℕ, zero, suc, ◌+◌, ◌*◌, ◌<◌, List, get_or, take, drop, refl, sym, ap, ◌∙◌, arith}
use Rattle.std.specs.Prelude.{sum_by, slice_index_or}
use Rattle.std.specs.Simd.{first_chunks}
use Rattle.std.specs.List.{range_with_len}
use Rattle.std.proofs.lemmas.List.{get_or-take, get_or-drop, drop-drop}
use Rattle.std.proofs.lemmas.List.Sums.{sum_by-cons}
use Rattle.units.specs.Word.{word_at}
use Rattle.records.specs.Line.{line_price}

-- the first four bytes of the price k say it
price_here : (line : List ℕ) (k : ℕ) → word_at (take 4 (drop (k * 4) line)) 0 ≡ line_price line k
price_here line k =
    let byte = λ (i : ℕ) (low : i < 4). get_or-take 4 (drop (k * 4) line) i 0 low ∙ get_or-drop (k * 4) line i 0 in
    let first : get_or (take 4 (drop (k * 4) line)) 0 0 ≡ get_or line (k * 4) 0 = byte 0 (omega arith) ∙ ap (λ j. get_or line j 0) (omega arith) in
    omega (arith, first, byte 1 (omega arith), byte 2 (omega arith), byte 3 (omega arith))

next_word : (line : List ℕ) (k : ℕ) → drop 4 (drop (k * 4) line) ≡ drop ((k + 1) * 4) line
next_word line k = drop-drop 4 (k * 4) line ∙ ap (λ n. drop n line) (omega arith)

abbrev pub said : List ℕ → ℕ
said p = word_at p 0

words_from : (line : List ℕ) (k n : ℕ) → sum_by said (first_chunks 4 n (drop (k * 4) line)) ≡ sum_by (line_price line) (range_with_len k n)
words_from line k zero = refl
words_from line k (suc n) =
    sum_by-cons said (take 4 (drop (k * 4) line)) (first_chunks 4 n (drop 4 (drop (k * 4) line)))
    ∙ ap (λ w. w + sum_by said (first_chunks 4 n (drop 4 (drop (k * 4) line)))) (price_here line k)
    ∙ ap (λ xs. line_price line k + sum_by said (first_chunks 4 n xs)) (next_word line k)
    ∙ ap (λ rest. line_price line k + rest) (words_from line (k + 1) n)
    ∙ sym (sum_by-cons (line_price line) k (range_with_len (k + 1) n))

-- the total of the prices, one after the other
pub words_sum : (line : List ℕ) → sum_by (λ p. word_at p 0) (first_chunks 4 32 line) ≡ sum_by (line_price line) (range_with_len 0 32)
words_sum line = words_from line 0 32

chunk_at : (line d : List ℕ) (j n k : ℕ) → k < n → slice_index_or (first_chunks 4 n (drop (j * 4) line)) k d ≡ take 4 (drop ((j + k) * 4) line)
chunk_at line d j zero k below = absurd (omega arith)
chunk_at line d j (suc n) zero below = ap (λ i. take 4 (drop i line)) (omega arith)
chunk_at line d j (suc n) (suc k) below =
    ap (λ xs. slice_index_or (first_chunks 4 n xs) k d) (next_word line j)
    ∙ chunk_at line d (j + 1) n k (omega arith)
    ∙ ap (λ i. take 4 (drop i line)) (omega arith)

-- the chunk k says the price k
pub price_part : (line p : List ℕ) (k : ℕ) → k < 32 → p ≡ slice_index_or (first_chunks 4 32 line) k p → word_at p 0 ≡ line_price line k
price_part line p k below is = ap said (is ∙ chunk_at line p 0 32 k below) ∙ price_here line (0 + k) ∙ ap (line_price line) (omega arith)
