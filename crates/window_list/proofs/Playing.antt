-- What a list of calls on a window comes to, by the states it goes through. Assumes nothing.
use Rattle.std.proofs.Common.{◌≡◌, ℕ, Bool, true, false, cond, List, [], ◌∷◌, is_ok, take, drop, refl, sym, ap, ◌∙◌, subst}
use Rattle.memory.specs.Meaning.{Meaning}
use Rattle.memory.specs.Reach.{Call, Linked, Reached, after_calls, cells_after, Step}
use Rattle.memory.specs.Calls.{read_answer}
use Rattle.memory.proofs.Reaches.{reached_none, reached_more}
use Rattle.mapping.specs.Rules.{Layout}
use Rattle.page_table.specs.declared.tlb.Tlb.{Tlb}
use Rattle.page_table.specs.Walk.{windowed, shown}
use Rattle.transfer.specs.Call.{below_called, tlb_called}
use Rattle.call_list.specs.Record.{Recorded, calls_of}
use Rattle.call_list.specs.Follow.{Between}
use Rattle.call_list.specs.Law.{ListLaw}
use Rattle.call_list.specs.Played.{ListPlayed}
use Rattle.call_list.proofs.Laws.{answers_kept}
use Rattle.call_list.proofs.Follows.{linked_keeps}
use Rattle.window.specs.declared.window.Window.{Window}
use Rattle.window.specs.State.{Standing, Called}
use Rattle.window_list.specs.Effect.{ListEffect}
use Rattle.window_list.specs.Played.{Behind, call_behind, behind_after, StateAfter, PlayedThrough, WindowPlayed}
use Rattle.window_list.proofs.Effects.{effect_none, effect_more}

both_or_neither : (is_open : Bool) (m n : Meaning) (h i : Tlb) → ◌≡◌ {A = Behind} (record { cells = cond is_open n m; tlb = cond is_open i h }) (cond is_open (record { cells = n; tlb = i }) (record { cells = m; tlb = h }))
both_or_neither true m n h i = refl
both_or_neither false m n h i = refl

-- over the states of any window: what it stands over, its TLB, whether it is open, and its layout
module _ {W S : Type 0} (meaning : S → Meaning) (R : S → Call → S → Type 0) (below : W → S) (tlb : W → Tlb) (is_open : W → Bool) (layout : W → Layout) (coherent : W → Type 0) (step : W → Call → W → Type 0) (called : (v w : W) (c : Call) → step v c w → Called ((layout w ≡ layout v) × (is_open w ≡ is_open v)) (Reached R (below v) (below w)) (is_open v) (layout v) (meaning (below v)) (meaning (below w)) (tlb v) (tlb w) c) where
  abbrev Cells : W → Meaning
  Cells w = shown (is_open w) (layout w) (meaning (below w))

  abbrev Standing_behind : W → Behind
  Standing_behind w = record { cells = meaning (below w); tlb = tlb w }

  record Passed (v : W) (cs : List Call) (w : W) : Type 0 where
    same_layout : layout w ≡ layout v
    same_open : is_open w ≡ is_open v
    reached : Reached R (below v) (below w)
    behind : Standing_behind w ≡ behind_after (is_open v) (layout v) (Standing_behind v) cs
    effect : is_open v ≡ true → ListEffect (layout v) (meaning (below v)) (meaning (below w)) cs

  module _ (v u : W) (c : Call) (one : Step Cells coherent step v c u) where
    call : Called ((layout u ≡ layout v) × (is_open u ≡ is_open v)) (Reached R (below v) (below u)) (is_open v) (layout v) (meaning (below v)) (meaning (below u)) (tlb v) (tlb u) c
    call = called v u c one.step

    -- by the layout and the openness before, the window's cells after the call
    cells_by_first : shown (is_open v) (layout v) (meaning (below u)) ≡ cells_after (Cells v) c
    cells_by_first =
        sym (ap (λ o. shown o (layout v) (meaning (below u))) call.same.1)
        ∙ sym (ap (λ l. shown (is_open u) l (meaning (below u))) call.same.0)
        ∙ one.cells

    answers : is_open v ≡ true → (a k : ℕ) → read_answer (windowed (layout v) (meaning (below u))) a k ≡ read_answer (windowed (layout v) (meaning (below v))) a k
    answers opened a k =
        sym (ap (λ o. read_answer (shown o (layout v) (meaning (below u))) a k) opened)
        ∙ ap (λ m. read_answer m a k) cells_by_first
        ∙ answers_kept (Cells v) c a k
        ∙ ap (λ o. read_answer (shown o (layout v) (meaning (below v))) a k) opened

    behind_one : Standing_behind u ≡ call_behind (is_open v) (layout v) (Standing_behind v) c
    behind_one =
        (λ i. record { cells = call.below i; tlb = call.tlb i })
        ∙ both_or_neither (is_open v) (meaning (below v)) (below_called (layout v) (meaning (below v)) c) (tlb v) (tlb_called (layout v) (meaning (below v)) c (tlb v))

  passed : (v w : W) (cs : List Call) → Linked (Step Cells coherent step) v cs w → Passed v cs w
  unfolding Linked after_calls
  passed v w [] e = subst (Passed v []) e (record { same_layout = refl; same_open = refl; reached = reached_none R (below v); behind = refl; effect = λ opened. effect_none (layout v) (meaning (below v)) })
  passed v w (c ∷ cs) l =
      let one = call v l.0 c l.1 in
      let rest = passed l.0 w cs l.2 in
      record {
        same_layout = rest.same_layout ∙ one.same.0;
        same_open = rest.same_open ∙ one.same.1;
        reached = reached_more R one.reached rest.reached;
        behind =
            rest.behind
            ∙ ap (λ o. behind_after o (layout l.0) (Standing_behind l.0) cs) one.same.1
            ∙ ap (λ x. behind_after (is_open v) x (Standing_behind l.0) cs) one.same.0
            ∙ ap (λ x. behind_after (is_open v) (layout v) x cs) (behind_one v l.0 c l.1);
        effect = λ opened.
            effect_more (layout v) (meaning (below v)) (meaning (below l.0)) (meaning (below w)) c cs (answers v l.0 c l.1 opened) (one.effect opened)
            (subst (λ x. ListEffect x (meaning (below l.0)) (meaning (below w)) cs) one.same.0 (rest.effect (one.same.1 ∙ opened)));
      }

  -- by the layout and the openness at the start, the window's cells at the end
  cells_by_start : (v w : W) (cs : List Call) → Passed v cs w → shown (is_open v) (layout v) (meaning (below w)) ≡ Cells w
  cells_by_start v w cs p =
      sym (ap (λ o. shown o (layout v) (meaning (below w))) p.same_open)
      ∙ sym (ap (λ l. shown (is_open w) l (meaning (below w))) p.same_layout)

  state_after : (v w : W) (cs : List Call) (k : ℕ) → Between Cells coherent step v cs k w → StateAfter meaning R (is_open v) (layout v) (below v) (tlb v) cs k (below w)
  state_after v w cs k b =
      let p = passed v b.state (take k cs) b.before in
      record {
        below = below b.state;
        tlb = tlb b.state;
        cells = cells_by_start v b.state (take k cs) p ∙ b.cells;
        behind = p.behind;
        before = p.reached;
        after = (passed b.state w (drop k cs) b.after).reached;
      }

  pub played_through : (v w : W) (cs ds : List Recorded) → ListPlayed Cells coherent step v w cs ds → PlayedThrough meaning R (is_open v) (layout v) (below v) (below w) (tlb v) (tlb w) cs ds
  played_through v w cs ds list =
      let p = passed v w (calls_of cs) list.linked in
      let same = cells_by_start v w (calls_of cs) p in
      record {
        calls = list.calls;
        every = λ k low. state_after v w (calls_of cs) k (list.every k low);
        cells = same ∙ list.cells;
        law = subst (ListLaw (Cells v) cs ds) (sym same) list.law;
        behind = p.behind;
        reached = p.reached;
        effect = p.effect;
      }

-- the same of windows
module _ {P S Q : Type 0} (armed : P → Type 0) (layout : P → Layout) (meaning : S → Meaning) (coherent : S → Type 0) (R : S → Call → S → Type 0) where
  abbrev pub WindowCells : Window P S Q → Meaning
  WindowCells w = shown (is_ok w.opening) (layout w.mapping) (meaning w.below)

  abbrev pub WindowCoherent : Window P S Q → Type 0
  WindowCoherent w = Standing (armed w.mapping) (coherent w.below) (is_ok w.opening) (layout w.mapping) (meaning w.below) w.tlb

  abbrev pub WindowStep : Window P S Q → Call → Window P S Q → Type 0
  WindowStep before call after = Called ((after.mapping ≡ before.mapping) × (after.opening ≡ before.opening)) (Reached R before.below after.below) (is_ok before.opening) (layout before.mapping) (meaning before.below) (meaning after.below) before.tlb after.tlb call

  as_called : (x y : Window P S Q) (c : Call) → WindowStep x c y → Called ((layout y.mapping ≡ layout x.mapping) × (is_ok y.opening ≡ is_ok x.opening)) (Reached R x.below y.below) (is_ok x.opening) (layout x.mapping) (meaning x.below) (meaning y.below) x.tlb y.tlb c
  as_called x y c s = record { same = (ap layout s.same.0, ap is_ok s.same.1); reached = s.reached; below = s.below; tlb = s.tlb; effect = s.effect; count = s.count }

  pub list_on_window : (v w : Window P S Q) (cs ds : List Recorded) → ListPlayed WindowCells WindowCoherent WindowStep v w cs ds → WindowPlayed armed layout meaning coherent R v w cs ds
  list_on_window v w cs ds list = record {
    list =
        played_through meaning R (λ x. x.below) (λ x. x.tlb) (λ x. is_ok x.opening) (λ x. layout x.mapping) WindowCoherent WindowStep
        as_called
        v w cs ds list;
    mapping = linked_keeps WindowCells WindowCoherent WindowStep (λ x. x.mapping) (λ x y c s. s.same.0) v w (calls_of cs) list.linked;
    opening = linked_keeps WindowCells WindowCoherent WindowStep (λ x. x.opening) (λ x y c s. s.same.1) v w (calls_of cs) list.linked;
    standing = list.coherent_after;
  }

  -- what the calls that led a window from one state to another left of it
  pub record WindowReached (v w : Window P S Q) : Type 0 where
    pub asked : List Call
    pub mapping : w.mapping ≡ v.mapping
    pub opening : w.opening ≡ v.opening
    pub reached : Reached R v.below w.below
    pub behind : ◌≡◌ {A = Behind} (record { cells = meaning w.below; tlb = w.tlb }) (behind_after (is_ok v.opening) (layout v.mapping) (record { cells = meaning v.below; tlb = v.tlb }) asked)
    pub effect : is_ok v.opening ≡ true → ListEffect (layout v.mapping) (meaning v.below) (meaning w.below) asked

  pub window_reached : (v w : Window P S Q) → Reached (Step WindowCells WindowCoherent WindowStep) v w → WindowReached v w
  window_reached v w p =
      let x =
      passed meaning R (λ x. x.below) (λ x. x.tlb) (λ x. is_ok x.opening) (λ x. layout x.mapping) WindowCoherent WindowStep as_called
      v w p.calls p.linked in
      record {
        asked = p.calls;
        mapping = linked_keeps WindowCells WindowCoherent WindowStep (λ x. x.mapping) (λ x y c s. s.same.0) v w p.calls p.linked;
        opening = linked_keeps WindowCells WindowCoherent WindowStep (λ x. x.opening) (λ x y c s. s.same.1) v w p.calls p.linked;
        reached = x.reached;
        behind = x.behind;
        effect = x.effect;
      }
