-- Memories in which the cells of a window stand alike. Assumes nothing.
use Rattle.std.proofs.Common.{◌≡◌, ℕ, ◌+◌, ◌*◌, ◌/◌, ◌%◌, ◌<◌, ◌≤◌, true, ◌⊎◌, [], ◌∷◌, is_some, Some, None, Ok, Err, Option, Result, sym, refl, ap, ◌∙◌, subst, inl, inr, ⊎_elim, arith}
use Rattle.std.proofs.lemmas.Bool.{cases_eq, cases_lt}
use Rattle.memory.specs.declared.fault.Fault.{Fault}
use Rattle.memory.specs.Meaning.{Meaning}
use Rattle.memory.specs.Calls.{value, stored}
use Rattle.memory.proofs.Calls.{same_meaning}
use Rattle.memory.proofs.Writes.{stored_outside}
use Rattle.memory.specs.Up.{cell_up}
use Rattle.mapping.specs.Rules.{Layout}
use Rattle.mapping.specs.Laws.{Lawful}
use Rattle.page_table.specs.declared.entry.Entry.{Entry}
use Rattle.page_table.specs.Table.{table_of, entry_address, entry_read, frame_in, frame_of, Live, GoodTable}
use Rattle.page_table.specs.Walk.{through, walked_from, walked, cell_behind, viewed, windowed}
use Rattle.memory.specs.declared.access.Access.{Access}
use Rattle.memory.specs.declared.access.Access.TheVariants.{Read, Write}
use Rattle.walk.specs.Marks.{top_after, marked_entry, marked}
use Rattle.walk.proofs.Marking.{live_entry, marked_entry_is, marked_other}
use Rattle.transfer.proofs.Grains.{stands, live_at}

-- n has the size of m, and the frames of its table; and each cell of a window stands in n where it stands in m
pub record Alike (l : Layout) (m n : Meaning) : Type 0 where
  pub size : n.size ≡ m.size
  pub frames : (k : ℕ) → k < (table_of l).entries → frame_of (table_of l) n k ≡ frame_of (table_of l) m k
  pub walks : (s : ℕ) → walked l n s ≡ walked l m s

pub good_alike : (l : Layout) (m n : Meaning) → Alike l m n → GoodTable (table_of l) m → GoodTable (table_of l) n
good_alike l m n alike good = record {
  table = λ p is. subst (λ s. p < s / 4096) (sym alike.size) (good.table p is);
  below = λ k f live. subst (λ s. f < s / 4096) (sym alike.size) (good.below k f (was k f live));
  outside = λ k f live. good.outside k f (was k f live);
  apart = λ j k f one two. good.apart j k f (was j f one) (was k f two);
} where
  was : (k f : ℕ) → Live (table_of l) n k f → Live (table_of l) m k f
  was k f live = record { low = live.low; frame = sym (alike.frames k live.low) ∙ live.frame }

-- if the cells where those of the window stand are the same, so is the window
pub windowed_alike : (l : Layout) (m n : Meaning) → Alike l m n → ((s p : ℕ) → walked l m s ≡ Ok p → n.cell p ≡ m.cell p) → windowed l n ≡ windowed l m
unfolding viewed
windowed_alike l m n alike cells = same_meaning (windowed l n) (windowed l m) refl (λ s. ap (cell_behind n) (alike.walks s) ∙ by s (walked l m s) refl) where
  by : (s : ℕ) (r : Result ℕ Fault) → walked l m s ≡ r → cell_behind n r ≡ cell_behind m r
  by s (Ok p) is = ap cell_up (cells s p is)
  by s (Err f) is = refl

-- where a cell stands is no cell of an entry
pub walked_clear : (l : Layout) → Lawful l → (m : Meaning) → GoodTable (table_of l) m → (s p : ℕ) → walked l m s ≡ Ok p → (k : ℕ) → k < (table_of l).entries → (p < entry_address (table_of l) k) ⊎ (entry_address (table_of l) k + 4 ≤ p)
walked_clear l laws m good s p e k few =
    let x = stands l laws m s p e in
    let is : p ≡ x.lead.entry.frame * 4096 + x.place % 4096 = x.lead.place in
    ⊎_elim inl (λ from. ⊎_elim
    (λ below.
    absurd (good.outside (x.place / 4096) x.lead.entry.frame (live_at l m s p x) (record { from = omega arith; below = omega arith })))
    inr (cases_lt p (entry_address (table_of l) k + 4))) (cases_lt p (entry_address (table_of l) k))

through_marked : (access : Access) (s v : ℕ) (e : Entry) → through s v (Ok (marked_entry access e)) ≡ through s v (Ok e)
through_marked Read s v e = refl
through_marked Write s v e = refl

frame_marked : (access : Access) (e : Entry) → frame_in (Ok (marked_entry access e)) ≡ frame_in (Ok e)
frame_marked Read e = refl
frame_marked Write e = refl

-- the marks of one page
module _ (l : Layout) (laws : Lawful l) (m : Meaning) (good : GoodTable (table_of l) m) (access : Access) (k : ℕ) (few : k < (table_of l).entries) (live : is_some (frame_of (table_of l) m k) ≡ true) where
  same_frame : (j : ℕ) → frame_of (table_of l) (marked (table_of l) access k m) j ≡ frame_of (table_of l) m j
  same_frame j =
      let x = live_entry (table_of l) m k live in
      ⊎_elim
      (λ same. ap (λ i. frame_in (entry_read (marked (table_of l) access k m) (entry_address (table_of l) i))) same
      ∙ ap frame_in (marked_entry_is (table_of l) access k m x.0 x.1) ∙ frame_marked access x.0
      ∙ sym (ap (λ i. frame_in (entry_read m (entry_address (table_of l) i))) same ∙ ap frame_in x.1))
      (λ other. ap frame_in (marked_other (table_of l) access k m x.0 x.1 j other))
      (cases_eq j k)

  same_through : (s v : ℕ) → through s v (entry_read (marked (table_of l) access k m) (entry_address (table_of l) (v / 4096))) ≡ through s v (entry_read m (entry_address (table_of l) (v / 4096)))
  same_through s v =
      let x = live_entry (table_of l) m k live in
      ⊎_elim
      (λ same. ap (λ i. through s v (entry_read (marked (table_of l) access k m) (entry_address (table_of l) i))) same
      ∙ ap (through s v) (marked_entry_is (table_of l) access k m x.0 x.1) ∙ through_marked access s v x.0
      ∙ sym (ap (λ i. through s v (entry_read m (entry_address (table_of l) i))) same ∙ ap (through s v) x.1))
      (λ other. ap (through s v) (marked_other (table_of l) access k m x.0 x.1 (v / 4096) other))
      (cases_eq (v / 4096) k)

  pub marked_alike : Alike l m (marked (table_of l) access k m)
  unfolding marked stored
  marked_alike = record {
    size = refl;
    frames = λ j low. same_frame j;
    walks = λ s. by s (l.place s);
  } where
    by : (s : ℕ) (o : Option ℕ) → walked_from (table_of l) (marked (table_of l) access k m) s o ≡ walked_from (table_of l) m s o
    by s None = refl
    by s (Some v) = same_through s v

  pub marked_window : windowed l (marked (table_of l) access k m) ≡ windowed l m
  unfolding marked
  marked_window = windowed_alike l m (marked (table_of l) access k m) marked_alike
      (λ s p is. stored_outside m (entry_address (table_of l) k) (top_after access (value (m.cell (entry_address (table_of l) k))) ∷ []) p
      (⊎_elim inl (λ after. inr (omega (arith, after))) (walked_clear l laws m good s p is k few)))
