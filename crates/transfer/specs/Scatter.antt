-- What an accepted run leaves: marks and bytes. Assumes nothing.
-- marked_pages t access ks m: the memory m after the marks of the pages ks of the table t, one after the other
-- refreshed_pages access ks h: the TLB h after them
-- LivePages t m ks: each of the pages ks has a live entry in the table t
-- put m bs r: the memory m with the bytes bs stored where the walk r led
-- ScatteredAll l m a bs n: n is what is left of m
-- scattered l base a bs m: m with each byte of bs stored where its cell stands, from the window address a on, by the table in base
use Rattle.std.specs.Prelude.{◌≡◌, ℕ, suc, ◌<◌, true, is_some, List, [], ◌∷◌, Ok, Err, Result}
use Rattle.memory.specs.declared.fault.Fault.{Fault}
use Rattle.memory.specs.Meaning.{Meaning}
use Rattle.memory.specs.Calls.{stored}
use Rattle.mapping.specs.Rules.{Layout}
use Rattle.page_table.specs.declared.table.Table.{Table}
use Rattle.page_table.specs.declared.tlb.Tlb.{Tlb}
use Rattle.page_table.specs.Table.{table_of, entry_address, entry_read, frame_of, GoodTable}
use Rattle.page_table.specs.Walk.{walked, windowed}
use Rattle.memory.specs.declared.access.Access.{Access}
use Rattle.walk.specs.Marks.{marked, refreshed}

unfoldable pub marked_pages : Table → Access → List ℕ → Meaning → Meaning
marked_pages t access [] m = m
marked_pages t access (k ∷ ks) m = marked_pages t access ks (marked t access k m)

unfoldable pub refreshed_pages : Access → List ℕ → Tlb → Tlb
refreshed_pages access [] h = h
refreshed_pages access (k ∷ ks) h = refreshed_pages access ks (refreshed access k h)

abbrev pub LivePages : Table → Meaning → List ℕ → Type 0
LivePages t m [] = Unit {0}
LivePages t m (k ∷ ks) = (k < t.entries) × (is_some (frame_of t m k) ≡ true) × LivePages t m ks

abbrev pub put : Meaning → List ℕ → Result ℕ Fault → Meaning
put m bs (Ok p) = stored m p bs
put m bs (Err f) = m

unfoldable pub scattered : Layout → Meaning → ℕ → List ℕ → Meaning → Meaning
scattered l base a [] m = m
scattered l base a (b ∷ bs) m = scattered l base (suc a) bs (put m (b ∷ []) (walked l base a))

-- What the bytes of an accepted run leave: the window is written, and the table stands.
pub record ScatteredAll (l : Layout) (m : Meaning) (a : ℕ) (bs : List ℕ) (n : Meaning) : Type 0 where
  pub window : windowed l n ≡ stored (windowed l m) a bs
  pub below : n ≡ scattered l m a bs m
  pub table : GoodTable (table_of l) n
  pub entries : (k : ℕ) → k < (table_of l).entries → entry_read n (entry_address (table_of l) k) ≡ entry_read m (entry_address (table_of l) k)
