-- Worked examples of page table entries, over their definitions. Assumes nothing.
-- entry_five top: the entry of the frame 5 whose first byte is top
-- looked_up h k e: the TLB h after a lookup of the page k, whose entry is e
-- EntryExamples: what three such entries make of a pseudo-virtual address v of a window address s, and how the first is marked
use Rattle.std.specs.Prelude.{◌≡◌, ℕ, ◌+◌, ◌%◌, true, [], ◌∷◌, Ok, Err}
use Rattle.memory.specs.declared.fault.Cause.TheVariants.{NoPage, PageOut}
use Rattle.memory.specs.Fault.{cause_number, here}
use Rattle.page_table.specs.declared.entry.Entry.{Entry}
use Rattle.page_table.specs.Entry.{entry_of, is_live, top_after_read, top_after_write}
use Rattle.page_table.specs.declared.tlb.Tlb.{Tlb}
use Rattle.page_table.specs.Tlb.{empty_tlb, held_entry}
use Rattle.page_table.specs.Walk.{through}
use Rattle.walk.specs.Lookup.{looked_by}

abbrev pub entry_five : ℕ → Entry
entry_five top = entry_of (top ∷ 0 ∷ 0 ∷ 5 ∷ [])

abbrev pub looked_up : Tlb → ℕ → Entry → Tlb
looked_up h k e = looked_by h k (Ok e) (held_entry h k)

-- The first bytes 80, 90 and 10, and C0 and E0, are hexadecimal: 128, 144 and 16, and 192 and 224.
pub record EntryExamples : Type 0 where
  pub live : is_live (entry_five 128) ≡ true
  pub stands : (s v : ℕ) → through s v (Ok (entry_five 128)) ≡ Ok (20480 + v % 4096)
  pub read : top_after_read 128 ≡ 192
  pub write : top_after_write 128 ≡ 224
  pub still_live : is_live (entry_five 224) ≡ true
  pub out : (s v : ℕ) → through s v (Ok (entry_five 144)) ≡ Err (here PageOut s)
  pub none : (s v : ℕ) → through s v (Ok (entry_five 16)) ≡ Err (here NoPage s)
  pub cause_four : cause_number NoPage ≡ 4
  pub cause_five : cause_number PageOut ≡ 5
  -- pages 0 and 32 stand in one place, so lookups of 0, 32 and 0 are three fills
  pub three_fills : (looked_up (looked_up (looked_up empty_tlb 0 (entry_five 128)) 32 (entry_five 128)) 0 (entry_five 128)).fills ≡ 3
