-- A write below where a part of a grain stands is a write of the window. Assumes nothing.
use Rattle.std.proofs.Common.{◌≡◌, ℕ, ◌+◌, ◌-◌, ◌*◌, ◌/◌, ◌%◌, ◌<◌, List, length, get_or, Some, None, Ok, Err, Option, Result, sym, refl, ap, ◌∙◌, subst, ⊎_elim, arith}
use Rattle.std.specs.Result.{result_map_both}
use Rattle.memory.specs.declared.fault.Fault.{Fault}
use Rattle.memory.specs.Fault.{passed_up}
use Rattle.memory.specs.Meaning.{byte, Meaning}
use Rattle.memory.specs.Calls.{read_answer, first_fault, stored, written}
use Rattle.memory.proofs.Overlays.{Inside, Outside, cases_run}
use Rattle.memory.proofs.Calls.{is_stored, written_accepted, writes_as_reads}
use Rattle.memory.proofs.Writes.{stored_inside, stored_outside}
use Rattle.memory.specs.Up.{cell_up}
use Rattle.mapping.specs.Rules.{Layout}
use Rattle.mapping.specs.Laws.{Lawful}
use Rattle.page_table.specs.Table.{table_of, entry_address, entry_read, frame_in, GoodTable}
use Rattle.page_table.specs.Walk.{walked_from, walked, cell_behind, viewed, windowed, through}
use Rattle.walk.proofs.Marking.{same_entry}
use Rattle.transfer.specs.Parts.{Part}
use Rattle.transfer.specs.Scatter.{put}
use Rattle.transfer.proofs.Grains.{stands, live_at, walked_follows, viewed_run}
use Rattle.transfer.proofs.Alikes.{Alike, good_alike, walked_clear}

module _ (l : Layout) (laws : Lawful l) (m : Meaning) (good : GoodTable (table_of l) m) where
  -- two cells never stand in one place
  pub walked_apart : (s t p : ℕ) → walked l m s ≡ Ok p → walked l m t ≡ Ok p → s ≡ t
  walked_apart s t p one two =
      let a = stands l laws m s p one in
      let b = stands l laws m t p two in
      let pa : p ≡ a.lead.entry.frame * 4096 + a.place % 4096 = a.lead.place in
      let pb : p ≡ b.lead.entry.frame * 4096 + b.place % 4096 = b.lead.place in
      let frames : a.lead.entry.frame ≡ b.lead.entry.frame = omega (arith, pa, pb) in
      let offs : a.place % 4096 ≡ b.place % 4096 = omega (arith, pa, pb) in
      let pages : a.place / 4096 ≡ b.place / 4096 =
      good.apart (a.place / 4096) (b.place / 4096) a.lead.entry.frame (live_at l m s p a) (record { low = b.low; frame = (live_at l m t p b).frame ∙ ap Some (sym frames) }) in
      let same : a.place ≡ b.place = omega (arith, pages, offs) in
      laws.apart s t a.place a.at (b.at ∙ ap Some (sym same))

  module _ (s p : ℕ) (bs : List ℕ) (part : Part l s (length bs)) (e : walked l m s ≡ Ok p) where
    -- the run below is none of the table's
    clear : (k : ℕ) → k < (table_of l).entries → (i : ℕ) → Inside (entry_address (table_of l) k) 4 i → Outside p (length bs) i
    clear k few i run =
        ⊎_elim
        (λ hit.
        let at : p + (i - p) ≡ i = omega (arith, hit.0) in
        let here : walked l m (s + (i - p)) ≡ Ok i = walked_follows l laws m s (length bs) p part e (i - p) (omega (arith, hit.0, hit.1)) ∙ ap Ok at in
        absurd (⊎_elim (λ before. omega (arith, run.0)) (λ after. omega (arith, run.1)) (walked_clear l laws m good (s + (i - p)) i here k few)))
        (λ miss. miss)
        (cases_run p (length bs) i)

    pub entry_kept : (k : ℕ) → k < (table_of l).entries → entry_read (stored m p bs) (entry_address (table_of l) k) ≡ entry_read m (entry_address (table_of l) k)
    entry_kept k few = same_entry (stored m p bs) m (entry_address (table_of l) k) (λ i run. stored_outside m p bs i (clear k few i run))

    pub stored_alike : Alike l m (stored m p bs)
    unfolding stored
    stored_alike = record {
      size = refl;
      frames = λ k few. ap frame_in (entry_kept k few);
      walks = λ t. by t (l.place t) refl;
    } where
      by : (t : ℕ) (o : Option ℕ) → l.place t ≡ o → walked_from (table_of l) (stored m p bs) t o ≡ walked_from (table_of l) m t o
      by t None at = refl
      by t (Some v) at =
          let far = laws.within t v at in
          ap (through t v) (entry_kept (v / 4096) (omega (arith, far.1)))

    inner : (i : ℕ) → Inside s (length bs) i → viewed l (stored m p bs) i ≡ byte (get_or bs (i - s) 0)
    unfolding viewed
    inner i run =
        let at : s + (i - s) ≡ i = omega (arith, run.0) in
        let low : i - s < length bs = omega (arith, run.0, run.1) in
        let off : p + (i - s) - p ≡ i - s = omega arith in
        let there : walked l (stored m p bs) i ≡ Ok (p + (i - s)) =
        stored_alike.walks i ∙ ap (walked l m) (sym at) ∙ walked_follows l laws m s (length bs) p part e (i - s) low in
        ap (cell_behind (stored m p bs)) there
        ∙ ap cell_up (stored_inside m p bs (p + (i - s)) (omega arith, omega arith) ∙ ap (λ j. byte (get_or bs j 0)) off)

    outer : (i : ℕ) → Outside s (length bs) i → viewed l (stored m p bs) i ≡ viewed l m i
    unfolding viewed
    outer i run = ap (cell_behind (stored m p bs)) (stored_alike.walks i) ∙ by (walked l m i) refl where
      by : (r : Result ℕ Fault) → walked l m i ≡ r → cell_behind (stored m p bs) r ≡ cell_behind m r
      by (Err f) is = refl
      by (Ok q) is = ⊎_elim
          (λ hit.
          let at : p + (q - p) ≡ q = omega (arith, hit.0) in
          let low : q - p < length bs = omega (arith, hit.0, hit.1) in
          let here : walked l m (s + (q - p)) ≡ Ok q = walked_follows l laws m s (length bs) p part e (q - p) low ∙ ap Ok at in
          let same : i ≡ s + (q - p) = walked_apart i (s + (q - p)) q is here in
          absurd (⊎_elim (λ before. omega arith) (λ after. omega arith) run))
          (λ miss. ap cell_up (stored_outside m p bs q miss))
          (cases_run p (length bs) q)

    pub stored_window : windowed l (stored m p bs) ≡ stored (windowed l m) s bs
    stored_window = is_stored (windowed l m) (windowed l (stored m p bs)) s bs refl inner outer

  -- the write below is taken
  pub part_taken : (s n p : ℕ) → Part l s n → walked l m s ≡ Ok p → first_fault (viewed l m) s n ≡ Ok tt → read_answer m p n ≡ Ok tt
  part_taken s n p part e fine = by (read_answer m p n) (sym (viewed_run l laws m s n part good p e) ∙ fine) where
    by : (r : Result (Unit {0}) Fault) → result_map_both (λ u. u) passed_up r ≡ Ok tt → r ≡ Ok tt
    by (Ok u) is = refl
    by (Err f) is = absurd cc

-- what the write of one part leaves
pub record Stored (l : Layout) (m n : Meaning) (s : ℕ) (bs : List ℕ) : Type 0 where
  pub below : n ≡ put m bs (walked l m s)
  pub walks : (t : ℕ) → walked l n t ≡ walked l m t
  pub window : windowed l n ≡ stored (windowed l m) s bs
  pub table : GoodTable (table_of l) n
  pub entries : (k : ℕ) → k < (table_of l).entries → entry_read n (entry_address (table_of l) k) ≡ entry_read m (entry_address (table_of l) k)

pub store_step : (l : Layout) → Lawful l → (m : Meaning) → GoodTable (table_of l) m → (s p : ℕ) (bs : List ℕ) → Part l s (length bs) → walked l m s ≡ Ok p → first_fault (viewed l m) s (length bs) ≡ Ok tt → (n : Meaning) → n ≡ written m p bs → Stored l m n s bs
store_step l laws m good s p bs part e fine n is =
    let new : n ≡ stored m p bs = is ∙ written_accepted m p bs (writes_as_reads m p (length bs) ∙ part_taken l laws m good s (length bs) p part e fine) in
    let alike = stored_alike l laws m good s p bs part e in
    record {
      below = new ∙ sym (ap (put m bs) e);
      walks = λ t. ap (λ x. walked l x t) new ∙ alike.walks t;
      window = ap (windowed l) new ∙ stored_window l laws m good s p bs part e;
      table = subst (GoodTable (table_of l)) (sym new) (good_alike l m (stored m p bs) alike good);
      entries = λ k few. ap (λ x. entry_read x (entry_address (table_of l) k)) new ∙ entry_kept l laws m good s p bs part e k few;
    }
