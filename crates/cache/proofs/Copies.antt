-- Held lines and the cells below. Assumes nothing.
use Rattle.std.proofs.Common.{◌≡◌, ℕ, zero, suc, ◌+◌, ◌*◌, ◌/◌, ◌%◌, ◌<◌, ◌≤◌, ◌≢◌, ◌⊎◌, Bool, true, false, cond, ◌&&◌, List, length, take, drop, is_ok, Some, None, Ok, Err, Result, refl, sym, ap, ◌∙◌, subst, inl, inr, ⊎_elim, arith}
use Rattle.std.proofs.lemmas.List.{length-take, length-drop, get_or-take, get_or-drop, ext_get_or}
use Rattle.std.proofs.lemmas.Bool.{cases_lt, false≢true}
use Rattle.memory.specs.declared.fault.Fault.{Fault}
use Rattle.memory.specs.Fault.{from_below}
use Rattle.memory.specs.Run.{check_run}
use Rattle.memory.specs.Meaning.{Cell, Meaning}
use Rattle.memory.specs.Calls.{value, read_answer, write_answer, bytes, delivered, stored, written}
use Rattle.memory.specs.Up.{cells_up}
use Rattle.memory.proofs.Runs.{Taken, run_taken}
use Rattle.memory.proofs.Calls.{answer_inside, first_fault_none, length_bytes, get_or_bytes, written_accepted}
use Rattle.memory.proofs.Writes.{accepted_write_taken, accepted_each, stored_answer, stored_outside}
use Rattle.memory.proofs.Ups.{delivered_up, read_inside_up}
use Rattle.cache_lines.specs.declared.line.CacheLine.{CacheLine}
use Rattle.cache_lines.specs.Lines.{no_lines}
use Rattle.cache_lines.specs.Sets.{line_kept, line_dropped, line_hit}
use Rattle.cache_lines.proofs.Finds.{held_kept, held_dropped, held_hit, held_none}
use Rattle.cache.specs.Rules.{whole_line, line_of, fetched, prefetch_keeps, after_prefetch, after_miss}
use Rattle.cache.specs.State.{Copy, Mirrored}

pub ok_is : (r : Result (Unit {0}) Fault) → is_ok r ≡ true → r ≡ Ok tt
ok_is (Ok u) e = refl
ok_is (Err f) e = absurd (false≢true e)

-- a run of a line that the memory accepts whole
module _ (m : Meaning) (a n : ℕ) (run : check_run m.size a n ≡ Ok tt) (line : whole_line m (a / 128) ≡ true) where
  whole : read_answer m (a / 128 * 128) 128 ≡ Ok tt
  whole = ok_is (read_answer m (a / 128 * 128) 128) line

  run_accepted : read_answer m a n ≡ Ok tt
  run_accepted =
      let t : Taken m.size a n = run_taken m.size a n run in
      answer_inside m a n run
      ∙ first_fault_none m.cell a n (λ i low high. accepted_each m (a / 128 * 128) 128 whole i (omega (arith, t.line), omega (arith, t.line)))

  run_bytes : take n (drop (a % 128) (bytes m.cell (a / 128 * 128) 128)) ≡ bytes m.cell a n
  run_bytes =
      let t : Taken m.size a n = run_taken m.size a n run in
      let all : List ℕ = bytes m.cell (a / 128 * 128) 128 in
      let long : length all ≡ 128 = length_bytes m.cell (a / 128 * 128) 128 in
      let part : length (take n (drop (a % 128) all)) ≡ n = length-take n (drop (a % 128) all) ∙ omega (arith, length-drop (a % 128) all, t.line, long) in
      ext_get_or 0 (take n (drop (a % 128) all)) (bytes m.cell a n) (part ∙ sym (length_bytes m.cell a n))
      (λ k low.
      let small : k < n = omega (arith, part) in
      get_or-take n (drop (a % 128) all) k 0 small
      ∙ get_or-drop (a % 128) all k 0
      ∙ get_or_bytes m.cell (a / 128 * 128) 128 (a % 128 + k) (omega (arith, t.line))
      ∙ ap (λ i. value (m.cell i)) (omega arith)
      ∙ sym (get_or_bytes m.cell a n k small))

  pub run_answer : Ok tt ≡ read_answer (cells_up m) a n
  run_answer = sym (read_inside_up m a n run ∙ ap from_below run_accepted)

  pub run_delivered : (b : List ℕ) → n ≡ length b → take (length b) (drop (a % 128) (bytes m.cell (a / 128 * 128) 128)) ≡ delivered (cells_up m) a b
  run_delivered b e =
      ap (λ k. take k (drop (a % 128) (bytes m.cell (a / 128 * 128) 128))) (sym e)
      ∙ run_bytes
      ∙ ap (bytes m.cell a) e
      ∙ sym (delivered_up m a b ∙ ap (λ r. cond (is_ok r) (bytes m.cell a (length b)) b) (ap (read_answer m a) (sym e) ∙ run_accepted))

pub mirrored_none : (m : Meaning) → Mirrored m no_lines
mirrored_none m n x e = absurd (held_none n x e)

pub mirrored_as : {m k : Meaning} {s t : ℕ → List CacheLine} → k ≡ m → t ≡ s → Mirrored m s → Mirrored k t
mirrored_as {m} {k} {s} {t} p q h = subst (λ x. Mirrored x t) (sym p) (subst (Mirrored m) (sym q) h)

pub mirrored_kept : (m : Meaning) (n : ℕ) (prefetched : Bool) (s : ℕ → List CacheLine) → whole_line m n ≡ true → Mirrored m s → Mirrored m (line_kept (line_of m n prefetched) s)
mirrored_kept m n prefetched s ok h k x e = ⊎_elim
    (λ w. record {
      accepted = ap (whole_line m) (sym w.0) ∙ ok;
      same = ap (λ l. l.bytes) w.1 ∙ ap (λ i. bytes m.cell (i * 128) 128) w.0;
    })
    (λ w. h k x w)
    (held_kept k x s (line_of m n prefetched) e)

pub mirrored_hit : (m : Meaning) (n : ℕ) (s : ℕ → List CacheLine) → Mirrored m s → Mirrored m (line_hit n s)
mirrored_hit m n s h k x e =
    let w = held_hit k x s n e in
    let old = h k w.0 w.1 in
    record { accepted = old.accepted; same = w.2 ∙ old.same }

and_true : (a b : Bool) → (a && b) ≡ true → b ≡ true
and_true true b e = e
and_true false b e = absurd (false≢true e)

pub mirrored_prefetched : (m : Meaning) (n : ℕ) (s : ℕ → List CacheLine) → Mirrored m s → Mirrored m (after_prefetch m n s)
mirrored_prefetched m n s h = by (prefetch_keeps m n s) refl where
  by : (t : Bool) → prefetch_keeps m n s ≡ t → Mirrored m (cond t (line_kept (line_of m n true) s) s)
  by true e = mirrored_kept m n true s (and_true _ _ e) h
  by false e = h

pub mirrored_missed : (m : Meaning) (n : ℕ) (s : ℕ → List CacheLine) → Mirrored m s → Mirrored m (after_miss m n s)
mirrored_missed m n s h = by (whole_line m n) refl where
  by : (t : Bool) → whole_line m n ≡ t → Mirrored m (cond t (after_prefetch m (n + 1) (line_kept (line_of m n false) s)) s)
  by true e = mirrored_prefetched m (n + 1) (line_kept (line_of m n false) s) (mirrored_kept m n false s e h)
  by false e = h

pub mirrored_followed : (m : Meaning) (n : ℕ) (s : ℕ → List CacheLine) (first : Bool) → Mirrored m s → Mirrored m (cond first (after_prefetch m (n + 1) (line_hit n s)) (line_hit n s))
mirrored_followed m n s true h = mirrored_prefetched m (n + 1) (line_hit n s) (mirrored_hit m n s h)
mirrored_followed m n s false h = mirrored_hit m n s h

same_bytes : (c d : ℕ → Cell) (a n : ℕ) → ((i : ℕ) → a ≤ i → i < a + n → c i ≡ d i) → bytes c a n ≡ bytes d a n
unfolding bytes
same_bytes c d a zero e = refl
same_bytes c d a (suc n) e =
    let head : c a ≡ d a = e a (omega arith) (omega arith) in
    let tail : bytes c (suc a) n ≡ bytes d (suc a) n = same_bytes c d (suc a) n (λ i low high. e i (omega arith) (omega arith)) in
    cc

-- an accepted write leaves every other line, and its own is dropped
pub mirrored_written : (m : Meaning) (a : ℕ) (bs : List ℕ) (s : ℕ → List CacheLine) → write_answer m a (length bs) ≡ Ok tt → Mirrored m s → Mirrored (written m a bs) (line_dropped (a / 128) s)
mirrored_written m a bs s ok h k x e =
    let w = held_dropped k x s (a / 128) e in
    let old = h k x w.1 in
    let t : Taken m.size a (length bs) = accepted_write_taken m a (length bs) ok in
    let is : written m a bs ≡ stored m a bs = written_accepted m a bs ok in
    subst (λ n. Copy n k x) (sym is)
    (record {
      accepted = ap is_ok (stored_answer m a bs ok (k * 128) 128) ∙ old.accepted;
      same = old.same ∙ same_bytes m.cell (stored m a bs).cell (k * 128) 128 (λ i low high. sym (stored_outside m a bs i (apart i low high w.0 t.line)));
    }) where
      apart : (i : ℕ) → k * 128 ≤ i → i < k * 128 + 128 → k ≢ a / 128 → a % 128 + length bs ≤ 128 → (i < a) ⊎ (a + length bs ≤ i)
      apart i low high ne line = ⊎_elim
          (λ less. inl (omega arith))
          (λ more. ⊎_elim (λ less. inr (omega arith)) (λ not_less. absurd (ne (omega arith))) (cases_lt (a / 128) k))
          (cases_lt k (a / 128))

pub mirrored_refused : (m : Meaning) (a : ℕ) (bs : List ℕ) (s : ℕ → List CacheLine) → is_ok (write_answer m a (length bs)) ≡ false → Mirrored m s → Mirrored (written m a bs) s
mirrored_refused m a bs s bad h = subst (λ n. Mirrored n s) (sym (ap (λ t. cond t (stored m a bs) m) bad)) h

-- what was fetched, by whether the memory accepts the line
pub fetched_some : (m : Meaning) (n : ℕ) (prefetched : Bool) (x : CacheLine) → Some x ≡ fetched m n prefetched → (whole_line m n ≡ true) × (x ≡ line_of m n prefetched)
fetched_some m n prefetched x e = by (whole_line m n) refl e where
  by : (t : Bool) → whole_line m n ≡ t → Some x ≡ cond t (Some (line_of m n prefetched)) None → (whole_line m n ≡ true) × (x ≡ line_of m n prefetched)
  by true is h = (is, cc)
  by false is h = absurd cc

pub fetched_none : (m : Meaning) (n : ℕ) (prefetched : Bool) → None ≡ fetched m n prefetched → whole_line m n ≡ false
fetched_none m n prefetched e = by (whole_line m n) e where
  by : (t : Bool) → None ≡ cond t (Some (line_of m n prefetched)) None → t ≡ false
  by true h = absurd cc
  by false h = refl
