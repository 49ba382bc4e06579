-- The numbers of cells whose names are looked up one after another.
use Rattle.std.proofs.Common.{◌≡◌, ◌∙◌, ℕ, ◌+◌, ◌<◌, ◌≤◌, ◌||◌, Bool, true, false, List, [], ◌∷◌, ◌++◌, Some, None, map}
use Rattle.std.proofs.Common.{length, take, get_or, is_none, unwrap_or, sym, ap}
use Rattle.std.specs.Borrow.{Bor}
use Rattle.std.specs.List.{list_any}
use Rattle.std.proofs.lemmas.List.{take_all}
use Rattle.std.proofs.lemmas.List.Folds.{list_any_at, list_any_more}
use Rattle.prop_vocabulary.specs.Cells.{CellNames, cell_named, cells_named, is_cell_missing}
use Rattle.prop_vocabulary.proofs.CellLookups.{missing_among, numbers_more}

-- no cell has the name
abbrev pub is_nowhere : CellNames → Bor (List ℕ) → Bool
is_nowhere c x = is_none (cell_named c x.now)

module _ (c : CellNames) (xs : List (Bor (List ℕ))) (i : ℕ) (d : Bor (List ℕ)) (l : i < length xs) where
  -- no cell has this one
  pub missing_here : cell_named c (get_or xs i d).now ≡ None → is_cell_missing c (map (λ y. y.now) xs) ≡ true
  missing_here e = sym (missing_among c xs true (sym (list_any_at (is_nowhere c) xs i d l (ap is_none e))))

  module _ (cell : ℕ) (e : cell_named c (get_or xs i d).now ≡ Some cell) where
    -- a cell has this one too
    pub found_too : list_any (is_nowhere c) (take i xs) ≡ false → list_any (is_nowhere c) (take (i + 1) xs) ≡ false
    found_too h = list_any_more (is_nowhere c) xs i d l ∙ (λ j. h j || (ap is_none e) j)

    pub numbered_too : (old new : List ℕ) → old ≡ cells_named c (map (λ y. y.now) (take i xs))
        → new ≡ old ++ cell ∷ [] → new ≡ cells_named c (map (λ y. y.now) (take (i + 1) xs))
    numbered_too old new h k = numbers_more c xs i d old new cell l h k (sym (ap (λ o. unwrap_or o 0) e))

-- cells have all
pub found_all : (c : CellNames) (xs : List (Bor (List ℕ))) (i : ℕ) → length xs ≤ i
    → list_any (is_nowhere c) (take i xs) ≡ false → is_cell_missing c (map (λ y. y.now) xs) ≡ false
found_all c xs i l h = sym (missing_among c xs false (sym h ∙ ap (list_any (is_nowhere c)) (take_all i xs l)))

pub numbered_all : (c : CellNames) (xs : List (Bor (List ℕ))) (i : ℕ) (numbers : List ℕ) → length xs ≤ i
    → numbers ≡ cells_named c (map (λ y. y.now) (take i xs)) → numbers ≡ cells_named c (map (λ y. y.now) xs)
numbered_all c xs i numbers l e = e ∙ ap (λ ys. cells_named c (map (λ (y : Bor (List ℕ)). y.now) ys)) (take_all i xs l)
