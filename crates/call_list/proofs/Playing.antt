-- A list of calls, the first of which are made. Assumes nothing.
use Rattle.std.proofs.Common.{◌≡◌, ℕ, ◌+◌, ◌<◌, ◌≤◌, List, [], ◌∷◌, ◌++◌, map, length, take, drop, get_or, set, refl, sym, ap, ◌∙◌, subst, add-zero, arith}
use Rattle.std.proofs.lemmas.List.{take_all, take_more, take_more_set, drop-set-lt, get_or-drop, length-set, length-map, map-append, map-set, get_or-map}
use Rattle.std.proofs.lemmas.Grind.{drop_more_same}
use Rattle.memory.specs.Meaning.{Meaning}
use Rattle.memory.specs.Reach.{Call, Linked, after_calls, cells_after, Step}
use Rattle.memory.proofs.Reaches.{linked_none, linked_one, linked_append}
use Rattle.call_list.specs.declared.record.CallRecord.{CallRecord}
use Rattle.call_list.specs.Record.{Recorded, recorded, call_of, calls_of}
use Rattle.call_list.specs.Model.{made, played, model}
use Rattle.call_list.specs.Law.{ListLaw}
use Rattle.call_list.specs.Played.{ListPlayed}
use Rattle.call_list.proofs.Models.{model_push, played_push}
use Rattle.call_list.proofs.Laws.{list_law}
use Rattle.call_list.proofs.Follows.{between}

-- the first i calls of `old` have brought the list to `new`, and the memory from the state s to the state t
pub record Playing {S : Type 0} (meaning : S → Meaning) (coherent : S → Type 0) (R : S → Call → S → Type 0) (s : S) (old new : List Recorded) (i : ℕ) (t : S) : Type 0 where
  pub made_so_far : take i new ≡ played (meaning s) (take i old)
  pub left : drop i new ≡ drop i old
  pub long : length new ≡ length old
  pub cells : meaning t ≡ model (meaning s) (calls_of (take i old))
  pub kept : coherent t
  pub linked : Linked (Step meaning coherent R) s (calls_of (take i old)) t

module _ {S : Type 0} (meaning : S → Meaning) (coherent : S → Type 0) (R : S → Call → S → Type 0) (s : S) (old : List Recorded) where
  pub playing_none : coherent s → Playing meaning coherent R s old old 0 s
  unfolding played after_calls
  playing_none c = record { made_so_far = refl; left = refl; long = refl; cells = refl; kept = c; linked = linked_none (Step meaning coherent R) s }

  module _ (new : List Recorded) (i : ℕ) (t : S) (so_far : Playing meaning coherent R s old new i t) (low : i < length new) (d : Recorded) where
    -- the call at the index i is as it was at the start
    as_it_was : get_or new i d ≡ get_or old i d
    as_it_was =
        ap (λ k. get_or new k d) (sym (add-zero i)) ∙ sym (get_or-drop i new 0 d) ∙ ap (λ xs. get_or xs 0 d) so_far.left
        ∙ get_or-drop i old 0 d ∙ ap (λ k. get_or old k d) (add-zero i)

    front : take (i + 1) old ≡ take i old ++ (get_or new i d ∷ [])
    front = take_more old i d (omega (arith, so_far.long)) ∙ ap (λ x. take i old ++ (x ∷ [])) (sym as_it_was)

    calls_front : calls_of (take (i + 1) old) ≡ calls_of (take i old) ++ (call_of (get_or new i d) ∷ [])
    calls_front = ap calls_of front ∙ map-append call_of (take i old) (get_or new i d ∷ [])

    pub playing_more : (x : Recorded) (u : S) → x ≡ made (meaning t) (get_or new i d) → Step meaning coherent R t (call_of (get_or new i d)) u → Playing meaning coherent R s old (set new i x) (i + 1) u
    playing_more x u is step = record {
      made_so_far =
          take_more_set new i x low
          ∙ ap (λ xs. xs ++ (x ∷ [])) so_far.made_so_far
          ∙ ap (λ y. played (meaning s) (take i old) ++ (y ∷ [])) (is ∙ ap (λ m. made m (get_or new i d)) so_far.cells)
          ∙ sym (played_push (meaning s) (take i old) (get_or new i d))
          ∙ ap (played (meaning s)) (sym front);
      left = drop-set-lt (i + 1) new i x (omega arith) ∙ drop_more_same new old i so_far.left;
      long = length-set new i x ∙ so_far.long;
      cells =
          step.cells ∙ ap (λ m. cells_after m (call_of (get_or new i d))) so_far.cells
          ∙ sym (model_push (meaning s) (calls_of (take i old)) (call_of (get_or new i d)))
          ∙ ap (model (meaning s)) (sym calls_front);
      kept = step.kept;
      linked = subst (λ cs. Linked (Step meaning coherent R) s cs u) (sym calls_front)
          (linked_append (Step meaning coherent R) s t u (calls_of (take i old)) (call_of (get_or new i d) ∷ []) so_far.linked (linked_one (Step meaning coherent R) t u (call_of (get_or new i d)) step));
    }

  -- the same by the records of a caller's list
  pub playing_next : (cs : List CallRecord) (i : ℕ) (t : S) → Playing meaning coherent R s old (map recorded cs) i t → (c : CallRecord) → i < length cs → c ≡ get_or cs i c → (x : CallRecord) (u : S) → recorded x ≡ made (meaning t) (recorded c) → Step meaning coherent R t (call_of (recorded c)) u → Playing meaning coherent R s old (map recorded (set cs i x)) (i + 1) u
  playing_next cs i t so_far c low item x u is step =
      let long : i < length (map recorded cs) = omega (arith, length-map cs recorded) in
      let here : get_or (map recorded cs) i (recorded c) ≡ recorded c = get_or-map recorded cs i c (recorded c) low ∙ ap recorded (sym item) in
      subst (λ xs. Playing meaning coherent R s old xs (i + 1) u) (sym (map-set recorded cs i x))
      (playing_more (map recorded cs) i t so_far long (recorded c) (recorded x) u
      (is ∙ ap (made (meaning t)) (sym here))
      (subst (λ y. Step meaning coherent R t (call_of y) u) (sym here) step))

  -- all calls are made
  pub list_played : (cs : List CallRecord) (i : ℕ) (t : S) → Playing meaning coherent R s old (map recorded cs) i t → length cs ≤ i → coherent s → ListPlayed meaning coherent R s t old (map recorded cs)
  list_played cs i t so_far all c =
      let new : List Recorded = map recorded cs in
      let whole : take i old ≡ old = take_all i old (omega (arith, so_far.long, length-map cs recorded)) in
      let calls : new ≡ played (meaning s) old = sym (take_all i new (omega (arith, length-map cs recorded))) ∙ so_far.made_so_far ∙ ap (played (meaning s)) whole in
      let cells : meaning t ≡ model (meaning s) (calls_of old) = so_far.cells ∙ ap (λ xs. model (meaning s) (calls_of xs)) whole in
      let linked : Linked (Step meaning coherent R) s (calls_of old) t = subst (λ xs. Linked (Step meaning coherent R) s (calls_of xs) t) whole so_far.linked in
      record {
        calls = calls;
        every = λ k low. between meaning coherent R s t (calls_of old) c linked k;
        cells = cells;
        law = subst (ListLaw (meaning s) old new) (sym cells) (subst (λ ds. ListLaw (meaning s) old ds (model (meaning s) (calls_of old))) (sym calls) (list_law (meaning s) old));
        linked = linked;
        coherent_after = so_far.kept;
      }
