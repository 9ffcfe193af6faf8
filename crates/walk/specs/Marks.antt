-- The marks of a page, set by an accepted read or write of its bytes. Assumes nothing.
-- top_after access b: the first byte b of an entry after that
-- marked_entry access e: the entry e after that
-- marked t access k m: the memory m after that, for the entry k of the table t
-- is_marked access e: whether the entry e is marked so already
-- held_marked access k h: whether the TLB h holds for the page k an entry that is
-- refreshed access k h: the TLB h after that: what it holds for the page k is marked as the entry is
use Rattle.std.specs.Prelude.{ℕ, Bool, true, false, ◌&&◌, [], ◌∷◌, Some, None, Option}
use Rattle.memory.specs.Meaning.{Meaning}
use Rattle.memory.specs.Calls.{value, stored}
use Rattle.page_table.specs.declared.entry.Entry.{Entry}
use Rattle.page_table.specs.declared.table.Table.{Table}
use Rattle.page_table.specs.declared.tlb.Tlb.{Tlb}
use Rattle.page_table.specs.Entry.{top_after_read, top_after_write}
use Rattle.page_table.specs.Table.{entry_address}
use Rattle.page_table.specs.Tlb.{held_entry, kept}
use Rattle.memory.specs.declared.access.Access.{Access}
use Rattle.memory.specs.declared.access.Access.TheVariants.{Read, Write}

abbrev pub top_after : Access → ℕ → ℕ
top_after Read b = top_after_read b
top_after Write b = top_after_write b

abbrev pub marked_entry : Access → Entry → Entry
marked_entry Read e = record { valid = e.valid; referenced = true; modified = e.modified; out = e.out; frame = e.frame }
marked_entry Write e = record { valid = e.valid; referenced = true; modified = true; out = e.out; frame = e.frame }

-- only the first byte of the entry may differ
abbrev pub marked_at : Access → ℕ → Meaning → Meaning
marked_at access a m = stored m a (top_after access (value (m.cell a)) ∷ [])

unfoldable pub marked : Table → Access → ℕ → Meaning → Meaning
marked t access k m = marked_at access (entry_address t k) m

abbrev pub is_marked : Access → Entry → Bool
is_marked Read e = e.referenced
is_marked Write e = e.referenced && e.modified

abbrev pub marked_in : Access → Option Entry → Bool
marked_in access None = false
marked_in access (Some e) = is_marked access e

abbrev pub held_marked : Access → ℕ → Tlb → Bool
held_marked access k h = marked_in access (held_entry h k)

abbrev pub refreshed_by : Access → ℕ → Tlb → Option Entry → Tlb
refreshed_by access k h None = h
refreshed_by access k h (Some e) = kept h k (marked_entry access e)

unfoldable pub refreshed : Access → ℕ → Tlb → Tlb
refreshed access k h = refreshed_by access k h (held_entry h k)
