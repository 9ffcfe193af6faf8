-- The part of a list that a run is of, and the list once it was read. Assumes nothing.
-- part_of i n xs: the n elements of xs from i on, as the checker says it
use Rattle.std.proofs.Common.{◌≡◌, ℕ, ◌+◌, ◌-◌, ◌≤◌, List, ◌++◌, length, take, drop, Ok, Err, sym, refl, ap, ◌∙◌, append_assoc, arith}
use borrow.Rule.Slice.PartMut.{put_mid, same_len_mid}
use Rattle.std.proofs.lemmas.Slice.{take-put_mid, drop-put_mid, drop-append-drop}
use Rattle.std.proofs.lemmas.List.{length-take, length-take-le, length-drop, take-append-drop, drop-drop}
use Rattle.std.proofs.Math.Seq.{take-append_seam, take-add}
use Rattle.memory.specs.declared.fault.Fault.{Fault}
use Rattle.memory.specs.Meaning.{Cell, Meaning}
use Rattle.memory.specs.Calls.{bytes, read_answer, delivered, stored}
use Rattle.memory.proofs.Writes.{stored_none, stored_append}
use Rattle.memory.proofs.Calls.{length_bytes}
use Rattle.transfer.proofs.Gathering.{bytes_split}

abbrev pub part_of : ℕ → ℕ → List ℕ → List ℕ
part_of i n xs = take (i + n - i) (drop i xs)

pub part_is : (i n : ℕ) (xs : List ℕ) → part_of i n xs ≡ take n (drop i xs)
part_is i n xs = ap (λ k. take k (drop i xs)) (omega arith)

pub length_part : (i n : ℕ) (xs : List ℕ) → i + n ≤ length xs → length (part_of i n xs) ≡ n
length_part i n xs low = simp (length-take, length-take-le, length-drop) (omega arith)

module _ (xs : List ℕ) (i n : ℕ) (low : i + n ≤ length xs) where
  -- a list is its first elements and the rest, after a part was put in
  parts_put : (ys : List ℕ) → length ys ≡ n → put_mid i (i + n - i) xs ys ≡ take i xs ++ (ys ++ drop (i + n) xs)
  parts_put ys long =
      let all : List ℕ = put_mid i (i + n - i) xs ys in
      sym (take-append-drop (i + n) all)
      ∙ ap (λ zs. zs ++ drop (i + n) all) (take-put_mid i (i + n - i) xs ys (i + n) (omega arith) (omega arith))
      ∙ ap (λ zs. (take i xs ++ ys) ++ zs) (drop-put_mid i (i + n - i) xs ys (i + n) (omega arith) (omega arith) (omega arith))
      ∙ append_assoc (take i xs) ys (drop (i + n) xs)

  -- a part that stayed as it was
  pub part_kept : (ys : List ℕ) → ys ≡ part_of i n xs → put_mid i (i + n - i) xs ys ≡ xs
  part_kept ys same =
      let long : length ys ≡ n = ap length same ∙ length_part i n xs low in
      parts_put ys long
      ∙ ap (λ zs. take i xs ++ (zs ++ drop (i + n) xs)) (same ∙ part_is i n xs)
      ∙ ap (λ zs. take i xs ++ (take n (drop i xs) ++ zs)) (sym (drop-drop n i xs))
      ∙ ap (λ zs. take i xs ++ zs) (take-append-drop n (drop i xs))
      ∙ take-append-drop i xs

  pub length_put : (ys : List ℕ) → length ys ≡ n → length (put_mid i (i + n - i) xs ys) ≡ length xs
  length_put ys long = same_len_mid i (i + n - i) xs ys (long ∙ sym (length_part i n xs low))

  pub rest_kept : (ys : List ℕ) → length ys ≡ n → drop (i + n) (put_mid i (i + n - i) xs ys) ≡ drop n (drop i xs)
  rest_kept ys long = drop-put_mid i (i + n - i) xs ys (i + n) (omega arith) (omega arith) (omega arith) ∙ sym (drop-drop n i xs)

-- bytes that are read in order fill the list from its start
pub filled_more : (c : ℕ → Cell) (a i n : ℕ) (xs old : List ℕ) → i + n ≤ length xs → xs ≡ bytes c a i ++ drop i old → (ys : List ℕ) → ys ≡ bytes c (a + i) n → put_mid i (i + n - i) xs ys ≡ bytes c a (i + n) ++ drop (i + n) old
filled_more c a i n xs old low is ys new =
    let long : length ys ≡ n = ap length new ∙ length_bytes c (a + i) n in
    let front : take i xs ≡ bytes c a i = ap (take i) is ∙ ap (λ k. take k (bytes c a i ++ drop i old)) (sym (length_bytes c a i)) ∙ take-append_seam (bytes c a i) (drop i old) in
    let back : drop (i + n) xs ≡ drop (i + n) old = ap (drop (i + n)) is ∙ drop-append-drop i old (bytes c a i) (i + n) (omega arith) (length_bytes c a i) in
    parts_put xs i n low ys long
    ∙ ap (λ zs. zs ++ (ys ++ drop (i + n) xs)) front
    ∙ ap (λ zs. bytes c a i ++ (ys ++ zs)) back
    ∙ ap (λ zs. bytes c a i ++ (zs ++ drop (i + n) old)) new
    ∙ sym (append_assoc (bytes c a i) (bytes c (a + i) n) (drop (i + n) old))
    ∙ ap (λ zs. zs ++ drop (i + n) old) (sym (bytes_split c a i n))

pub filled_none : (c : ℕ → Cell) (a : ℕ) (xs : List ℕ) → xs ≡ bytes c a 0 ++ xs
unfolding bytes
filled_none c a xs = refl

module _ (m : Meaning) (a : ℕ) (b : List ℕ) where
  pub delivered_taken : (u : Unit {0}) → read_answer m a (length b) ≡ Ok u → delivered m a b ≡ bytes m.cell a (length b)
  delivered_taken u e = rw e refl

  pub delivered_refused : (f : Fault) → read_answer m a (length b) ≡ Err f → delivered m a b ≡ b
  delivered_refused f e = rw e refl

-- bytes that are written in order are one store of all of them
pub stored_none_yet : (m : Meaning) (a : ℕ) (bs : List ℕ) → m ≡ stored m a (take 0 bs)
stored_none_yet m a bs = sym (stored_none m a)

pub stored_more : (m : Meaning) (a i n : ℕ) (bs : List ℕ) → i + n ≤ length bs → stored (stored m a (take i bs)) (a + i) (part_of i n bs) ≡ stored m a (take (i + n) bs)
stored_more m a i n bs low =
    stored_append m a (a + i) (take i bs) (part_of i n bs) (omega (arith, length-take-le i bs (omega arith)))
    ∙ ap (λ xs. stored m a (take i bs ++ xs)) (part_is i n bs)
    ∙ ap (stored m a) (sym (take-add i n bs))
