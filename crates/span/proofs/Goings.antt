-- A span, some runs of which are made. Assumes nothing.
use Rattle.std.proofs.Common.{◌≡◌, ℕ, suc, ◌+◌, List, ◌∷◌, length, take, drop, Ok, Err, Result, sym, ap, ◌∙◌, add-zero, zero-add, add_assoc, arith}
use Rattle.std.proofs.lemmas.List.{length-take-le}
use Rattle.memory.specs.declared.fault.Fault.{Fault}
use Rattle.memory.specs.Reach.{Call, cells_of}
use Rattle.span.specs.Runs.{run_size, cut}
use Rattle.span.specs.Span.{Ended, later, go_on, ended}

module _ {X : Type 0} (reply : X → Call → Result (Unit {0}) Fault) (after : X → Call → X) (call : ℕ → List ℕ → Call) (sized : (a : ℕ) (bs : List ℕ) → cells_of (call a bs) ≡ length bs) where
  -- `whole` is what the span comes to; bytes to the number `done` are over, and k runs of those that are left are to be made from x
  pub record SpanSoFar (whole : Ended X) (k a done : ℕ) (left : List ℕ) (x : X) : Type 0 where
    pub is : whole ≡ later done (ended reply after (cut call k (a + done) left) x)

  pub span_none : (j k a : ℕ) (bs : List ℕ) (x : X) → j ≡ k → SpanSoFar (ended reply after (cut call k a bs) x) j a 0 bs x
  span_none j k a bs x same =
      let e : Ended X = ended reply after (cut call k a bs) x in
      let first : e ≡ later 0 e = λ i. record { answer = e.answer; done = sym (zero-add e.done) i; left = e.left } in
      record {
        is = first ∙ ap (λ b. later 0 (ended reply after (cut call k b bs) x)) (sym (add-zero a))
            ∙ ap (λ n. later 0 (ended reply after (cut call n (a + 0) bs) x)) (sym same);
      }

  pub span_all : {whole : Ended X} {j a done : ℕ} {left : List ℕ} {x : X} → SpanSoFar whole j a done left x → j ≡ 0 → record { answer = Ok tt; done = done; left = x } ≡ whole
  unfolding cut ended
  span_all {whole} {j} {a} {done} {left} {x} s last =
      sym (s.is
      ∙ ap (λ n. later done (ended reply after (cut call n (a + done) left) x)) last
      ∙ ap (λ d. record { answer = Ok tt; done = d; left = x }) (add-zero done))

  -- the next run, its bytes, and what it leaves
  module _ {whole : Ended X} {j a done : ℕ} {left : List ℕ} {x : X} (s : SpanSoFar whole j a done left x) (k : ℕ) (more : j ≡ suc k) (n : ℕ) (run : n ≡ run_size (a + done) (length left)) (part : List ℕ) (is : part ≡ take n left) (y : X) (gone : y ≡ after x (call (a + done) part)) where
    opened : whole ≡ later done (go_on n y (ended reply after (cut call k (a + done + n) (drop n left)) y) (reply x (call (a + done) part)))
    unfolding cut ended
    opened =
        let others : X → Ended X = λ z. ended reply after (cut call k (a + done + n) (drop n left)) z in
        s.is
        ∙ ap (λ i. later done (ended reply after (cut call i (a + done) left) x)) more
        ∙ ap (λ m. later done (ended reply after (call (a + done) (take m left) ∷ cut call k (a + done + m) (drop m left)) x)) (sym run)
        ∙ ap (λ bs. later done (go_on (cells_of (call (a + done) bs)) (after x (call (a + done) bs)) (others (after x (call (a + done) bs))) (reply x (call (a + done) bs)))) (sym is)
        ∙ ap (λ z. later done (go_on (cells_of (call (a + done) part)) z (others z) (reply x (call (a + done) part)))) (sym gone)
        ∙ ap (λ d. later done (go_on d y (others y) (reply x (call (a + done) part)))) (sized (a + done) part ∙ ap length is ∙ length-take-le n left (omega arith))

    pub span_refused : (f : Fault) → reply x (call (a + done) part) ≡ Err f → record { answer = Err f; done = done; left = y } ≡ whole
    span_refused f refused =
        sym (opened
        ∙ ap (λ r. later done (go_on n y (ended reply after (cut call k (a + done + n) (drop n left)) y) r)) refused
        ∙ ap (λ d. record { answer = Err f; done = d; left = y }) (add-zero done))

    pub span_more : (u : Unit {0}) → reply x (call (a + done) part) ≡ Ok u → (others : List ℕ) → others ≡ drop n left → SpanSoFar whole k a (done + n) others y
    span_more u taken others same =
        let e : Ended X = ended reply after (cut call k (a + done + n) (drop n left)) y in
        let sum : later done (later n e) ≡ later (done + n) e = λ i. record { answer = e.answer; done = sym (add_assoc done n e.done) i; left = e.left } in
        record {
          is = opened ∙ ap (λ r. later done (go_on n y e r)) taken ∙ sum
              ∙ ap (λ b. later (done + n) (ended reply after (cut call k b (drop n left)) y)) (add_assoc a done n)
              ∙ ap (λ bs. later (done + n) (ended reply after (cut call k (a + (done + n)) bs) y)) (sym same);
        }
