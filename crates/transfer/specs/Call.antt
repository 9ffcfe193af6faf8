-- What a call through an open window leaves: in the memory below, and in the TLB. Assumes nothing.
-- marked_run l access a n m: the memory m after the marks of the pages of the run of n bytes at a
-- below_after_read l m a n: the memory m below after a read of n bytes at a
-- below_after_write l m a bs: the memory m below after a write of bs at a
-- tlb_after l m access a n h: the TLB h after a call on n bytes at a
-- below_called l m c, tlb_called l m c h: both after the call c
use Rattle.std.specs.Prelude.{ℕ, cond, is_ok, List, length}
use Rattle.memory.specs.Meaning.{Meaning}
use Rattle.memory.specs.Run.{check_run}
use Rattle.memory.specs.Reach.{Call, reading, writing}
use Rattle.memory.specs.Calls.{read_answer, write_answer}
use Rattle.mapping.specs.Rules.{Layout}
use Rattle.page_table.specs.declared.tlb.Tlb.{Tlb}
use Rattle.page_table.specs.Table.{table_of}
use Rattle.page_table.specs.Walk.{windowed}
use Rattle.memory.specs.declared.access.Access.{Access}
use Rattle.memory.specs.declared.access.Access.TheVariants.{Read, Write}
use Rattle.transfer.specs.Parts.{pages_of}
use Rattle.transfer.specs.Lookups.{lookups_of}
use Rattle.transfer.specs.Scatter.{marked_pages, refreshed_pages, scattered}

abbrev pub marked_run : Layout → Access → ℕ → ℕ → Meaning → Meaning
marked_run l access a n m = marked_pages (table_of l) access (pages_of l a n) m

-- a refused call changes no cell below; an accepted read sets referenced marks
unfoldable pub below_after_read : Layout → Meaning → ℕ → ℕ → Meaning
below_after_read l m a n = cond (is_ok (read_answer (windowed l m) a n)) (marked_run l Read a n m) m

-- an accepted write sets both marks, and stores each byte where its cell stands
unfoldable pub below_after_write : Layout → Meaning → ℕ → List ℕ → Meaning
below_after_write l m a bs =
    cond (is_ok (write_answer (windowed l m) a (length bs)))
    (scattered l (marked_run l Write a (length bs) m) a bs (marked_run l Write a (length bs) m))
    m

-- past causes 1 and 2 the grains are looked up; an accepted call brings the marks that are held up to date
unfoldable pub tlb_after : Layout → Meaning → Access → ℕ → ℕ → Tlb → Tlb
tlb_after l m access a n h =
    cond (is_ok (check_run l.image_size a n))
    (cond (is_ok (read_answer (windowed l m) a n)) (refreshed_pages access (pages_of l a n) (lookups_of l m a n h)) (lookups_of l m a n h))
    h

abbrev pub below_called : Layout → Meaning → Call → Meaning
below_called l m (reading a b) = below_after_read l m a (length b)
below_called l m (writing a bs) = below_after_write l m a bs

abbrev pub tlb_called : Layout → Meaning → Call → Tlb → Tlb
tlb_called l m (reading a b) h = tlb_after l m Read a (length b) h
tlb_called l m (writing a bs) h = tlb_after l m Write a (length bs) h
