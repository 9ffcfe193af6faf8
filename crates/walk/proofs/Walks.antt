-- Where a walk finds what it needs. Assumes nothing.
use Rattle.std.proofs.Common.{◌≡◌, ℕ, ◌+◌, ◌/◌, ◌<◌, ◌≤◌, Some, sym, arith}
use Rattle.memory.specs.Meaning.{Meaning}
use Rattle.mapping.specs.Rules.{Layout}
use Rattle.page_table.specs.declared.table.Table.{Table}
use Rattle.page_table.specs.declared.tlb.Tlb.{Tlb}
use Rattle.page_table.specs.Table.{table_of, entry_address, GoodTable}
use Rattle.page_table.specs.Ready.{Ready}

-- the whole table lies inside the memory
pub table_inside : (t : Table) (m : Meaning) → GoodTable t m → (k : ℕ) → k < t.entries → entry_address t k + 4 ≤ m.size
table_inside t m good k low =
    let last = good.table (t.page + k / 1024) (record { from = omega arith; below = omega arith }) in
    omega arith

pub entry_below : (l : Layout) (m : Meaning) (h : Tlb) (s v : ℕ) → Ready l m h → Some v ≡ l.place s → (v / 4096 < (table_of l).entries) × (entry_address (table_of l) (v / 4096) + 4 ≤ m.size) × (v < 17179869184)
entry_below l m h s v ready at =
    let laws = ready.lawful in
    let inside = laws.within s v (sym at) in
    let far = laws.extent_most in
    let low : v / 4096 < (table_of l).entries = omega (arith, inside.1) in
    (low, table_inside (table_of l) m ready.table (v / 4096) low, omega (arith, inside.1))
