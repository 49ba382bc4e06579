-- Names of cells and their numbers.
use Rattle.std.proofs.Common.{◌≡◌, ◌∙◌, ◌<◌, ℕ, Bool, false, List, [], ◌∷◌, ◌++◌, Option, Some, None, map, length, take}
use Rattle.std.proofs.Common.{get_or, ◌+◌, refl, sym, ap, arith, is_none, unwrap_or, slice_get, inl, inr, All, subst}
use Rattle.std.specs.Borrow.{Bor}
use Rattle.std.specs.List.{list_any}
use Rattle.std.specs.Option.{option_and_then}
use Rattle.std.proofs.lemmas.List.{take_more, map-append}
use Rattle.std.proofs.lemmas.Option.{slice_get_cases, slice_get_within, get_or_from_slice_get}
use Rattle.std.proofs.lemmas.List.Elements.{All-cons}
use Rattle.prop_vocabulary.specs.Names.{number_in}
use Rattle.prop_vocabulary.specs.Cells.{CellNames, cell_named, cells_named, is_cell_missing}
use Rattle.prop_vocabulary.proofs.Lookups.{list_any-map, number_below, or_false}

pub missing_among : (c : CellNames) (cells : List (Bor (List ℕ))) (r : Bool)
    → r ≡ list_any (λ x. is_none (cell_named c x.now)) cells → r ≡ is_cell_missing c (map (λ x. x.now) cells)
missing_among c cells r e = e ∙ sym (list_any-map (λ (x : Bor (List ℕ)). x.now) (λ name. is_none (cell_named c name))
    cells)

pub numbers_more : (c : CellNames) (cells : List (Bor (List ℕ))) (i : ℕ) (d : Bor (List ℕ)) (old new : List ℕ) (n : ℕ)
    → i < length cells → old ≡ cells_named c (map (λ x. x.now) (take i cells)) →
    new ≡ old ++ n ∷ [] → n ≡ unwrap_or (cell_named c (get_or cells i d).now) 0
    → new ≡ cells_named c (map (λ x. x.now) (take (i + 1) cells))
numbers_more c cells i d old new n l e f k =
    rw (take_more cells i d l, map-append, map-append) (f ∙ (λ t. e t ++ k t ∷ []))

-- where no cell has the name, it is none of the names
pub unnamed : (c : CellNames) (name : List ℕ) → length c.cells ≡ length c.names → cell_named c name ≡ None
    → number_in c.names name ≡ None
unnamed c name same none = at (number_in c.names name) refl
  where
    at : (o : Option ℕ) → number_in c.names name ≡ o → number_in c.names name ≡ None
    at None e = e
    at (Some n) e =
        let below = number_below c.names name n e in
        elim (slice_get_cases c.cells n).1 as (λ _. number_in c.names name ≡ None) [
          | inl h ↦ let s : Some h.0 ≡ None = sym (ap (λ o. option_and_then (λ k. slice_get c.cells k) o) e ∙ h.2)
              ∙ none in cc
          | inr h ↦ absurd (omega (arith, h.0, below, same))
        ]

-- what is true of the numbers of all named cells is true of the one with a name
pub of_named : (P : ℕ → Type 0) (c : CellNames) (name : List ℕ) (cell : ℕ) → All P c.cells
    → cell_named c name ≡ Some cell → P cell
of_named P c name cell all e = at (number_in c.names name) e
  where
    at : (o : Option ℕ) → option_and_then (λ n. slice_get c.cells n) o ≡ Some cell → P cell
    at None e = cc
    at (Some n) e = subst P (get_or_from_slice_get c.cells n cell cell e)
        (all n cell (slice_get_within c.cells n cell e))

of_found : (P : ℕ → Type 0) (c : CellNames) (name : List ℕ) (o : Option ℕ) → All P c.cells → cell_named c name ≡ o
    → is_none o ≡ false → P (unwrap_or o 0)
of_found P c name None all e h = cc
of_found P c name (Some cell) all e h = of_named P c name cell all e

-- and of those with these names, where none is missing
pub of_all_named : (P : ℕ → Type 0) (c : CellNames) (words : List (List ℕ)) → All P c.cells
    → is_cell_missing c words ≡ false → All P (cells_named c words)
of_all_named P c [] all h = λ k d l. absurd (omega (arith, l))
of_all_named P c (name ∷ words) all h =
    let both = or_false (is_none (cell_named c name)) (is_cell_missing c words) h in
    All-cons P (unwrap_or (cell_named c name) 0) (cells_named c words)
    (of_found P c name (cell_named c name) all refl both.0) (of_all_named P c words all both.1)
