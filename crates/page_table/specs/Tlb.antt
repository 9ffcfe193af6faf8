-- The TLB: 32 places for translations, and the counts. Assumes nothing.
-- entry_in k p: the entry that the place p holds for the page k
-- held_entry t k: the entry that the TLB t holds for the page k
-- empty_tlb: nothing is held, and every count is 0
-- kept t k e: t with the entry e held for the page k, in place of what stood in its place
-- counted t filled: t with one lookup more, which was a fill or not; the lookup that reaches 2^48 is the last that counts
-- counted_hits t n: t with n lookups more that found their entry held
-- Steady t: what holds of the counts of every TLB
use Rattle.std.specs.Prelude.{ℕ, zero, suc, false, ◌+◌, ◌%◌, ◌^◌, ◌≤◌, Bool, cond, nat_lt, slice_set, ◌==◌, replicate, slice_index_or, Some, None, Option}
use Rattle.page_table.specs.declared.entry.Entry.{Entry}
use Rattle.page_table.specs.declared.tlb.Translation.{Translation}
use Rattle.page_table.specs.declared.tlb.Tlb.{Tlb}

abbrev pub entry_in : ℕ → Option Translation → Option Entry
entry_in k None = None
entry_in k (Some held) = cond (held.page == k) (Some held.entry) None

-- page k stands only in place k mod 32
abbrev pub held_entry : Tlb → ℕ → Option Entry
held_entry t k = entry_in k (slice_index_or t.places (k % 32) None)

abbrev pub empty_tlb : Tlb
empty_tlb = record { places = replicate 32 None; lookups = 0; fills = 0 }

abbrev pub kept : Tlb → ℕ → Entry → Tlb
kept t k e = record {
  places = slice_set t.places (k % 32) (Some (record { page = k; entry = e }));
  lookups = t.lookups;
  fills = t.fills;
}

abbrev pub counted : Tlb → Bool → Tlb
counted t filled =
    cond (nat_lt t.lookups (2 ^ 48))
    (record { places = t.places; lookups = t.lookups + 1; fills = cond filled (t.fills + 1) t.fills })
    t

unfoldable pub counted_hits : Tlb → ℕ → Tlb
counted_hits t zero = t
counted_hits t (suc n) = counted (counted_hits t n) false

pub record Steady (t : Tlb) : Type 0 where
  pub fills : t.fills ≤ t.lookups
  pub lookups : t.lookups ≤ 2 ^ 48
