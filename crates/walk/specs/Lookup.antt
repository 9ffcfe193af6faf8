-- One lookup of the entry of a page. Assumes nothing.
-- taken_in h k r: the TLB h after a lookup of the page k, which it does not hold, by the entry r as it was read
-- looked_by h k r e: the same, where e is what it holds for the page
-- looked t m h k: the TLB h after a lookup of the page k of the table t in the memory m
-- page_at l s: the page of the data where the byte s of the image stands by the layout l; 0 where it stands nowhere
-- looked_at l m h s: the TLB h after the walk from the window address s, which is one lookup if the layout gives s a place
use Rattle.std.specs.Prelude.{ℕ, ◌/◌, true, false, cond, Some, None, Ok, Err, Option, Result}
use Rattle.memory.specs.declared.fault.Fault.{Fault}
use Rattle.memory.specs.Meaning.{Meaning}
use Rattle.mapping.specs.Rules.{Layout}
use Rattle.page_table.specs.declared.entry.Entry.{Entry}
use Rattle.page_table.specs.declared.table.Table.{Table}
use Rattle.page_table.specs.declared.tlb.Tlb.{Tlb}
use Rattle.page_table.specs.Entry.{is_live}
use Rattle.page_table.specs.Table.{table_of, entry_address, entry_read}
use Rattle.page_table.specs.Tlb.{held_entry, kept, counted}

-- a live entry is a fill, and held from then on; a dead or faulted one displaces nothing
abbrev pub taken_in : Tlb → ℕ → Result Entry Fault → Tlb
taken_in h k (Ok e) = cond (is_live e) (kept (counted h true) k e) (counted h false)
taken_in h k (Err f) = counted h false

abbrev pub looked_by : Tlb → ℕ → Result Entry Fault → Option Entry → Tlb
looked_by h k r None = taken_in h k r
looked_by h k r (Some e) = counted h false

unfoldable pub looked : Table → Meaning → Tlb → ℕ → Tlb
looked t m h k = looked_by h k (entry_read m (entry_address t k)) (held_entry h k)

abbrev pub page_of : Option ℕ → ℕ
page_of None = 0
page_of (Some v) = v / 4096

abbrev pub page_at : Layout → ℕ → ℕ
page_at l s = page_of (l.place s)

abbrev pub looked_from : Table → Meaning → Tlb → Option ℕ → Tlb
looked_from t m h None = h
looked_from t m h (Some v) = looked t m h (v / 4096)

unfoldable pub looked_at : Layout → Meaning → Tlb → ℕ → Tlb
looked_at l m h s = looked_from (table_of l) m h (l.place s)
