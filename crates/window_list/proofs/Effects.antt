-- What a list of calls changes below: nothing for no call, and the change of one call before those of the others. Assumes nothing.
use Rattle.std.proofs.Common.{◌≡◌, ℕ, zero, suc, ◌⊎◌, inl, inr, ⊎_elim, List, [], ◌∷◌, slice_get, Some, Ok, Err, Result, refl, sym, ap, ◌∙◌, subst}
use Rattle.memory.specs.declared.fault.Fault.{Fault}
use Rattle.memory.specs.Meaning.{Meaning}
use Rattle.memory.specs.Reach.{Call, first_cell, cells_of, Writes}
use Rattle.memory.specs.Calls.{read_answer}
use Rattle.mapping.specs.Rules.{Layout}
use Rattle.page_table.specs.declared.entry.Entry.{Entry}
use Rattle.page_table.specs.Table.{table_of, entry_address, entry_read}
use Rattle.page_table.specs.Walk.{windowed}
use Rattle.page_table.specs.Class.{SameRead}
use Rattle.transfer.specs.Effect.{Accepted, Touches, Effect}
use Rattle.window_list.specs.Effect.{AccessedBy, AnySort, ListEffect}

-- what was read before is read after, if the reading is the same but for marks
read_after : {e : Entry} (r q : Result Entry Fault) → SameRead r q → r ≡ Ok e → (d : Entry) × (q ≡ Ok d)
read_after (Ok d) (Ok f) same is = (f, refl)
read_after (Ok d) (Err g) same is = absurd same
read_after (Err f) q same is = absurd cc

read_before : {d : Entry} (r q : Result Entry Fault) → SameRead r q → q ≡ Ok d → (e : Entry) × (r ≡ Ok e)
read_before (Ok e) q same is = (e, refl)
read_before (Err f) (Ok e) same is = absurd same
read_before (Err f) (Err g) same is = absurd cc

same_itself : (r : Result Entry Fault) → SameRead r r
same_itself (Ok e) = record { valid = refl; out = refl; frame = refl }
same_itself (Err f) = refl

same_more : (r q p : Result Entry Fault) → SameRead r q → SameRead q p → SameRead r p
same_more (Ok d) (Ok e) (Ok f) one two = record { valid = one.valid ∙ two.valid; out = one.out ∙ two.out; frame = one.frame ∙ two.frame }
same_more (Ok d) (Ok e) (Err g) one two = absurd two
same_more (Ok d) (Err g) p one two = absurd one
same_more (Err f) (Ok e) p one two = absurd one
same_more (Err f) (Err g) (Ok e) one two = absurd two
same_more (Err f) (Err g) (Err h) one two = one ∙ two

same_entry : {e d : Entry} (r : Result Entry Fault) → r ≡ Ok e → r ≡ Ok d → d ≡ e
same_entry r one two = cc

pub no_call : {Sort : Call → Type 0} {l : Layout} {m : Meaning} {k : ℕ} → AccessedBy Sort l m [] k → ⊥
no_call a = by a.index a.at where
  by : {c : Call} (i : ℕ) → slice_get [] i ≡ Some c → ⊥
  by zero at = absurd cc
  by (suc i) at = absurd cc

-- no call
pub effect_none : (l : Layout) (m : Meaning) → ListEffect l m m []
effect_none l m = record {
  size = refl;
  cells = λ p stands marks. refl;
  table = λ k low. same_itself (entry_read m (entry_address (table_of l) k));
  walks = λ s. refl;
  referenced = λ k e d low was is. (λ set. inl (ap (λ x. x.referenced) (same_entry _ is was) ∙ set), ⊎_elim (λ set. ap (λ x. x.referenced) (same_entry _ was is) ∙ set) (λ a. absurd (no_call a)));
  modified = λ k e d low was is. (λ set. inl (ap (λ x. x.modified) (same_entry _ is was) ∙ set), ⊎_elim (λ set. ap (λ x. x.modified) (same_entry _ was is) ∙ set) (λ a. absurd (no_call a)));
}

-- one call, and then the others
module _ (l : Layout) (m u n : Meaning) (c : Call) (cs : List Call) (answers : (a k : ℕ) → read_answer (windowed l u) a k ≡ read_answer (windowed l m) a k) where
  -- the first call, or a later one
  first_access : (Sort : Call → Type 0) (k : ℕ) → Sort c → Accepted l m c → Touches l c k → AccessedBy Sort l m (c ∷ cs) k
  first_access Sort k sort accepted touches = record { index = 0; call = c; at = refl; sort = sort; accepted = accepted; touches = touches }

  later_access : (Sort : Call → Type 0) (k : ℕ) → AccessedBy Sort l u cs k → AccessedBy Sort l m (c ∷ cs) k
  later_access Sort k a = record { index = suc a.index; call = a.call; at = a.at; sort = a.sort; accepted = sym (answers (first_cell a.call) (cells_of a.call)) ∙ a.accepted; touches = a.touches }

  split_access : (Sort : Call → Type 0) (k : ℕ) → AccessedBy Sort l m (c ∷ cs) k → (Sort c × Accepted l m c × Touches l c k) ⊎ AccessedBy Sort l u cs k
  split_access Sort k a = by a.index a.at where
    by : (i : ℕ) → slice_get (c ∷ cs) i ≡ Some a.call → (Sort c × Accepted l m c × Touches l c k) ⊎ AccessedBy Sort l u cs k
    by zero at =
        let same : a.call ≡ c = cc in
        inl (subst Sort same a.sort, subst (Accepted l m) same a.accepted, subst (λ x. Touches l x k) same a.touches)
    by (suc i) at = inr (record { index = i; call = a.call; at = at; sort = a.sort; accepted = answers (first_cell a.call) (cells_of a.call) ∙ a.accepted; touches = a.touches })

  pub effect_more : Effect l m u c → ListEffect l u n cs → ListEffect l m n (c ∷ cs)
  effect_more one rest = record {
    size = rest.size ∙ one.size;
    cells = λ p stands marks.
        rest.cells p
        (λ x. stands (record { cell = x.cell; value = x.value; stands = sym (one.walks x.cell) ∙ x.stands; is_byte = sym (one.cells p stands marks) ∙ x.is_byte }))
        (λ x.
        let e = read_before _ _ (one.table x.page x.low) x.read in
        marks (record { page = x.page; entry = e.0; low = x.low; address = x.address; read = e.1 }))
        ∙ one.cells p stands marks;
    table = λ k low. same_more _ _ _ (one.table k low) (rest.table k low);
    walks = λ s. rest.walks s ∙ one.walks s;
    referenced = λ k e d low was is.
        let f = read_after _ _ (one.table k low) was in
        let first = one.referenced k e f.0 low was f.1 in
        let later = rest.referenced k f.0 d low f.1 is in (
          λ set. ⊎_elim (λ x. ⊎_elim inl (λ y. inr (first_access AnySort k tt y.0 y.1)) (first.0 x)) (λ y. inr (later_access AnySort k y)) (later.0 set),
          ⊎_elim
              (λ x. later.1 (inl (first.1 (inl x))))
              (λ a. ⊎_elim (λ y. later.1 (inl (first.1 (inr (y.1, y.2))))) (λ y. later.1 (inr y)) (split_access AnySort k a)),
        );
    modified = λ k e d low was is.
        let f = read_after _ _ (one.table k low) was in
        let first = one.modified k e f.0 low was f.1 in
        let later = rest.modified k f.0 d low f.1 is in (
          λ set. ⊎_elim (λ x. ⊎_elim inl (λ y. inr (first_access Writes k y.1 y.0 y.2)) (first.0 x)) (λ y. inr (later_access Writes k y)) (later.0 set),
          ⊎_elim
              (λ x. later.1 (inl (first.1 (inl x))))
              (λ a. ⊎_elim (λ y. later.1 (inl (first.1 (inr (y.1, y.0, y.2))))) (λ y. later.1 (inr y)) (split_access Writes k a)),
        );
  }
