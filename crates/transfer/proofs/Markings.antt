-- The marks of a run, page by page. Assumes nothing.
use Rattle.std.proofs.Common.{◌≡◌, ℕ, ◌+◌, ◌<◌, ◌≤◌, true, List, [], ◌∷◌, map, drop, length, get_or, is_some, sym, refl, ap, ◌∙◌, subst}
use Rattle.std.proofs.lemmas.List.{drop_more, drop_all}
use Rattle.memory.specs.Meaning.{Meaning, WellFormed}
use Rattle.mapping.specs.Rules.{Layout}
use Rattle.page_table.specs.declared.tlb.Tlb.{Tlb}
use Rattle.page_table.specs.Table.{table_of, frame_of, GoodTable}
use Rattle.page_table.specs.Tlb.{Steady}
use Rattle.page_table.specs.Walk.{walked, windowed}
use Rattle.page_table.specs.Ready.{Holds, Ready}
use Rattle.walk.specs.declared.spot.Spot.{Spot}
use Rattle.memory.specs.declared.access.Access.{Access}
use Rattle.walk.specs.Marks.{marked, refreshed, held_marked}
use Rattle.walk.proofs.Marking.{marked_already, refreshed_already}
use Rattle.transfer.specs.Scatter.{LivePages, marked_pages, refreshed_pages}
use Rattle.transfer.proofs.Alikes.{good_alike, marked_alike, marked_window}

-- the marks so far, and those of the pages that are left
pub record Marking (l : Layout) (before : Meaning) (held : Tlb) (access : Access) (all left : List ℕ) (m : Meaning) (h : Tlb) : Type 0 where
  pub below : marked_pages (table_of l) access all before ≡ marked_pages (table_of l) access left m
  pub tlb : refreshed_pages access all held ≡ refreshed_pages access left h
  pub window : windowed l m ≡ windowed l before
  pub walks : (s : ℕ) → walked l m s ≡ walked l before s
  pub ready : Ready l m h
  pub live : LivePages (table_of l) m left

pub marking_none : (l : Layout) (m : Meaning) (h : Tlb) (access : Access) (ks : List ℕ) → Ready l m h → LivePages (table_of l) m ks → Marking l m h access ks ks m h
marking_none l m h access ks ready live = record { below = refl; tlb = refl; window = refl; walks = λ s. refl; ready = ready; live = live }

pub live_after : (l : Layout) (m n : Meaning) → ((k : ℕ) → k < (table_of l).entries → frame_of (table_of l) n k ≡ frame_of (table_of l) m k) → (ks : List ℕ) → LivePages (table_of l) m ks → LivePages (table_of l) n ks
live_after l m n same [] live = tt
live_after l m n same (k ∷ ks) live = (live.0, ap is_some (same k live.0) ∙ live.1, live_after l m n same ks live.2)

module _ (l : Layout) (before : Meaning) (held : Tlb) (access : Access) (all : List ℕ) (k : ℕ) (ks : List ℕ) (m : Meaning) (h : Tlb) (x : Marking l before held access all (k ∷ ks) m h) where
  pub marking_more : (n : Meaning) (d : Tlb) → n ≡ marked (table_of l) access k m → d ≡ refreshed access k h → WellFormed n → Holds (table_of l) n d → Steady d → Marking l before held access all ks n d
  unfolding marked_pages refreshed_pages
  marking_more n d is kept formed holds steady =
      let laws = x.ready.lawful in
      let alike = marked_alike l laws m x.ready.table access k x.live.0 x.live.1 in
      record {
        below = x.below ∙ ap (marked_pages (table_of l) access ks) (sym is);
        tlb = x.tlb ∙ ap (refreshed_pages access ks) (sym kept);
        window = ap (windowed l) is ∙ marked_window l laws m x.ready.table access k x.live.0 x.live.1 ∙ x.window;
        walks = λ s. ap (λ y. walked l y s) is ∙ alike.walks s ∙ x.walks s;
        ready = record {
          lawful = laws;
          formed = formed;
          table = subst (GoodTable (table_of l)) (sym is) (good_alike l m (marked (table_of l) access k m) alike x.ready.table);
          holds = holds;
          steady = steady;
        };
        live = subst (λ y. LivePages (table_of l) y ks) (sym is) (live_after l m (marked (table_of l) access k m) alike.frames ks x.live.2);
      }

  -- where it is held with its marks set, nothing is left to do
  pub marking_same : held_marked access k h ≡ true → Marking l before held access all ks m h
  marking_same set1 =
      let r = x.ready in
      marking_more m h (marked_already (table_of l) access k m h r.holds set1) (refreshed_already access k h set1) r.formed r.holds r.steady

pub record MarkedAll (l : Layout) (before : Meaning) (held : Tlb) (access : Access) (ks : List ℕ) (m : Meaning) (h : Tlb) : Type 0 where
  pub below : m ≡ marked_pages (table_of l) access ks before
  pub tlb : h ≡ refreshed_pages access ks held

pub marking_all : (l : Layout) (before : Meaning) (held : Tlb) (access : Access) (all left : List ℕ) (m : Meaning) (h : Tlb) → left ≡ [] → Marking l before held access all left m h → MarkedAll l before held access all m h
unfolding marked_pages refreshed_pages
marking_all l before held access all left m h none x = record {
  below = sym (x.below ∙ ap (λ ks. marked_pages (table_of l) access ks m) none);
  tlb = sym (x.tlb ∙ ap (λ ks. refreshed_pages access ks h) none);
}

-- the spot that is next, and those after it
pub next_page : {l : Layout} {before : Meaning} {held : Tlb} {access : Access} {all : List ℕ} {m : Meaning} {h : Tlb} (spots : List Spot) (i : ℕ) (d : Spot) → i < length spots → Marking l before held access all (map (λ spot. spot.page) (drop i spots)) m h → Marking l before held access all ((get_or spots i d).page ∷ map (λ spot. spot.page) (drop (i + 1) spots)) m h
next_page {l} {before} {held} {access} {all} {m} {h} spots i d low x =
    subst (λ ks. Marking l before held access all ks m h) (ap (map (λ spot. spot.page)) (drop_more spots i d low)) x

pub none_left : (spots : List Spot) (i : ℕ) → length spots ≤ i → map (λ spot. spot.page) (drop i spots) ≡ []
none_left spots i past = ap (map (λ spot. spot.page)) (drop_all i spots past)
