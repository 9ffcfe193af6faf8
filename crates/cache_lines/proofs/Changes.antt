-- The sets by what is done to one of them. Assumes nothing.
use Rattle.std.proofs.Common.{◌≡◌, ℕ, ◌%◌, ◌<◌, Bool, true, false, cond, ◌||◌, eqb, ◌≢◌, List, [], ◌∷◌, ◌++◌, length, take, set, is_some, Some, None, Option, sym, refl, ap, ◌∙◌, ⊎_elim, arith}
use mathlib.Core.Path.{fun_ext}
use Rattle.std.specs.Option.{option_map}
use Rattle.std.proofs.lemmas.List.{get_or-set_same, get_or-set_other}
use Rattle.std.proofs.lemmas.Bool.{cases_eq, cond-true, cond-false, eq-eqb, ne_eqb}
use Rattle.cache_lines.specs.declared.line.CacheLine.{CacheLine}
use Rattle.cache_lines.specs.declared.ways.CacheSet.{CacheSet}
use Rattle.cache_lines.specs.Lines.{listed, lines_of, lines_in, is_line, found_in, hit_once, hit_in, dropped_in, copied_from, find, without, after_hit}
use Rattle.cache_lines.specs.Sets.{one_changed, line_kept, line_dropped, line_hit}

-- one set was changed
module _ (ps : List CacheSet) (n : ℕ) (f : List CacheLine → List CacheLine) (k : ℕ) (p : CacheSet) (long : length ps ≡ 8) (at : k ≡ n % 8) (is : lines_of p ≡ f (lines_in ps k)) where
  abbrev none : CacheSet
  none = record { newer = None; older = None }

  same : (j : ℕ) → j ≡ n % 8 → lines_in (set ps k p) j ≡ one_changed n f (lines_in ps) j
  same j e =
      let low : k < length ps = omega arith in
      ap (lines_in (set ps k p)) (e ∙ sym at)
      ∙ ap lines_of (get_or-set_same ps k p none low)
      ∙ is
      ∙ ap (λ i. f (lines_in ps i)) (at ∙ sym e)
      ∙ sym (cond-true _ _ _ (eq-eqb j (n % 8) e))

  other : (j : ℕ) → j ≢ n % 8 → lines_in (set ps k p) j ≡ one_changed n f (lines_in ps) j
  other j ne =
      ap lines_of (get_or-set_other ps k j p none (λ e. ne (e ∙ at)))
      ∙ sym (cond-false _ _ _ (ne_eqb j (n % 8) ne))

  set_changed : lines_in (set ps k p) ≡ one_changed n f (lines_in ps)
  set_changed = fun_ext (λ j. ⊎_elim (same j) (other j) (cases_eq j (n % 8)))

module _ (ps : List CacheSet) (k : ℕ) (p : CacheSet) where
  pub set_kept : (x : CacheLine) → length ps ≡ 8 → k ≡ x.number % 8 → lines_of p ≡ take 2 (x ∷ lines_in ps k) → lines_in (set ps k p) ≡ line_kept x (lines_in ps)
  unfolding line_kept
  set_kept x long at is = set_changed ps x.number (λ xs. take 2 (x ∷ xs)) k p long at is

  pub set_dropped : (n : ℕ) → length ps ≡ 8 → k ≡ n % 8 → lines_of p ≡ without n (lines_in ps k) → lines_in (set ps k p) ≡ line_dropped n (lines_in ps)
  unfolding line_dropped
  set_dropped n long at is = set_changed ps n (without n) k p long at is

  pub set_hit : (n : ℕ) → length ps ≡ 8 → k ≡ n % 8 → lines_of p ≡ after_hit n (lines_in ps k) → lines_in (set ps k p) ≡ line_hit n (lines_in ps)
  unfolding line_hit
  set_hit n long at is = set_changed ps n (after_hit n) k p long at is

-- the two ways of a set
module _ (n : ℕ) where
  some_is : (t : Bool) (x : CacheLine) → t ≡ is_some (cond t (Some x) None)
  some_is true x = refl
  some_is false x = refl

  holds_way : (b : Option CacheLine) → is_line b n ≡ is_some (find n (listed b))
  unfolding find
  holds_way None = refl
  holds_way (Some x) = some_is (eqb x.number n) x

  some_or : (t : Bool) (x : CacheLine) (b : Option CacheLine) → (t || is_line b n) ≡ is_some (cond t (Some x) (find n (listed b)))
  some_or true x b = refl
  some_or false x b = holds_way b

  pub holds_pair : (a b : Option CacheLine) → (is_line a n || is_line b n) ≡ is_some (find n (listed a ++ listed b))
  unfolding find
  holds_pair None b = holds_way b
  holds_pair (Some x) b = some_or (eqb x.number n) x b

  listed_drop : (t : Bool) (x : CacheLine) → listed (cond t None (Some x)) ≡ cond t [] (x ∷ [])
  listed_drop true x = refl
  listed_drop false x = refl

  drop_older : (b : Option CacheLine) → listed (dropped_in b n) ≡ without n (listed b)
  unfolding without
  drop_older None = refl
  drop_older (Some x) = listed_drop (eqb x.number n) x

  drop_both : (t : Bool) (x : CacheLine) (ys zs : List CacheLine) → ys ≡ zs → listed (cond t None (Some x)) ++ ys ≡ cond t zs (x ∷ zs)
  drop_both true x ys zs e = e
  drop_both false x ys zs e = ap (λ xs. x ∷ xs) e

  pub drop_pair : (a b : Option CacheLine) → listed (dropped_in a n) ++ listed (dropped_in b n) ≡ without n (listed a ++ listed b)
  unfolding without
  drop_pair None b = drop_older b
  drop_pair (Some x) b = drop_both (eqb x.number n) x (listed (dropped_in b n)) (without n (listed b)) (drop_older b)

  pub record First (a b : Option CacheLine) : Type 0 where
    pub finds : found_in a n ≡ find n (listed a ++ listed b)
    pub settles : listed (hit_in a n) ++ listed b ≡ after_hit n (listed a ++ listed b)

  first_at : (t : Bool) (x : CacheLine) (b : Option CacheLine) → is_some (option_map (λ (y : CacheLine). y.prefetched) (cond t (Some x) None)) ≡ true → (cond t (Some x) None ≡ cond t (Some x) (find n (listed b))) × (cond t (hit_once x) x ∷ listed b ≡ cond t (hit_once x ∷ listed b) (x ∷ after_hit n (listed b)))
  first_at true x b e = (refl, refl)
  first_at false x b e = let z : ◌≡◌ {A = ℕ} 0 1 = cc in absurd (omega arith)

  pub hit_newer : (a b : Option CacheLine) → is_some (option_map (λ (x : CacheLine). x.prefetched) (found_in a n)) ≡ true → First a b
  unfolding find after_hit
  hit_newer None b e = let z : ◌≡◌ {A = ℕ} 0 1 = cc in absurd (omega arith)
  hit_newer (Some x) b e = let h = first_at (eqb x.number n) x b e in record { finds = h.0; settles = h.1 }

  pub record Second (a b : Option CacheLine) : Type 0 where
    pub finds : found_in b n ≡ find n (listed a ++ listed b)
    pub settles : listed (hit_in a n) ++ listed (hit_in b n) ≡ after_hit n (listed a ++ listed b)
    pub copies : (at : ℕ) (xs : List ℕ) → copied_from (found_in a n) at xs ≡ xs

  find_older : (b : Option CacheLine) → found_in b n ≡ find n (listed b)
  unfolding find
  find_older None = refl
  find_older (Some x) = refl

  hit_at : (t : Bool) (x : CacheLine) → cond t (hit_once x) x ∷ [] ≡ cond t (hit_once x ∷ []) (x ∷ [])
  hit_at true x = refl
  hit_at false x = refl

  after_hit_older : (b : Option CacheLine) → listed (hit_in b n) ≡ after_hit n (listed b)
  unfolding after_hit
  after_hit_older None = refl
  after_hit_older (Some x) = hit_at (eqb x.number n) x

  second_at : (t : Bool) (x : CacheLine) (b : Option CacheLine) → is_some (option_map (λ (y : CacheLine). y.prefetched) (cond t (Some x) None)) ≡ false → (found_in b n ≡ cond t (Some x) (find n (listed b))) × (cond t (hit_once x) x ∷ listed (hit_in b n) ≡ cond t (hit_once x ∷ listed b) (x ∷ after_hit n (listed b))) × ((at : ℕ) (xs : List ℕ) → copied_from (cond t (Some x) None) at xs ≡ xs)
  second_at true x b e = let z : ◌≡◌ {A = ℕ} 0 1 = cc in absurd (omega arith)
  second_at false x b e = (find_older b, ap (λ xs. x ∷ xs) (after_hit_older b), λ at xs. refl)

  pub hit_older : (a b : Option CacheLine) → is_some (option_map (λ (x : CacheLine). x.prefetched) (found_in a n)) ≡ false → Second a b
  unfolding find after_hit
  hit_older None b e = record { finds = find_older b; settles = after_hit_older b; copies = λ at xs. refl }
  hit_older (Some x) b e = let h = second_at (eqb x.number n) x b e in record { finds = h.0; settles = h.1; copies = h.2 }
