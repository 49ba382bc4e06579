-- The texts of cells, one more at a time.
use Rattle.std.proofs.Common.{◌≡◌, ◌∙◌, ◌+◌, ◌<◌, ℕ, zero, suc, List, [], ◌∷◌, ◌++◌, length, take, sym, ap, refl}
use Rattle.std.proofs.Common.{get_or}
use Rattle.std.proofs.Common.{append-nil, slice_get, Some, None}
use Rattle.std.specs.Option.{option_map}
use Rattle.prop_premises.specs.Origins.{Origin, User, Side, name_of, side_at}
use Rattle.std.proofs.lemmas.List.{take_more}
use Rattle.std.proofs.lemmas.List.Concat.{flat_map-append}
use Rattle.prop_vocabulary.specs.Cells.{CellNames}
use Rattle.prop_notes.specs.Texts.{cell_text, cells_text, sides_of, moved_text}

-- one more cell
pub cells_text_more : (names : CellNames) (cells : List ℕ) (i d : ℕ) (before : List ℕ) → i < length cells
    → before ≡ cells_text names (take i cells)
    → before ++ (32 ∷ cell_text names (get_or cells i d)) ≡ cells_text names (take (i + 1) cells)
cells_text_more names cells i d before l is =
    let f : ℕ → List ℕ = λ cell. 32 ∷ cell_text names cell in
    let x = get_or cells i d in
    ap (λ t. t ++ f x) is ∙ ap (λ t. cells_text names (take i cells) ++ t) (sym (append-nil (f x)))
    ∙ sym (flat_map-append f (take i cells) (x ∷ [])) ∙ ap (cells_text names) (sym (take_more cells i d l))

-- ---- a side and its next one

pub moved_side : (premises : List Origin) (p side : ℕ) (name : List ℕ)
    → option_map name_of (slice_get premises p) ≡ Some name → side_at premises p ≡ Some side →
    moved_text premises p ≡ sides_of (Side name side 0)
moved_side [] p side name e h = cc
moved_side (User n believed ∷ os) zero side name e h = cc
moved_side (Side n i sides ∷ os) zero side name e h = rw (some_is n name e, some_is i side h) refl
  where
    some_is : {X : Type 0} (a b : X) → Some a ≡ Some b → a ≡ b
    some_is a b h = cc
moved_side (o ∷ os) (suc p) side name e h = moved_side os p side name e h

pub moved_user : (premises : List Origin) (p : ℕ) (name : List ℕ)
    → option_map name_of (slice_get premises p) ≡ Some name → side_at premises p ≡ None → moved_text premises p ≡ []
moved_user [] p name e h = cc
moved_user (User n believed ∷ os) zero name e h = refl
moved_user (Side n i sides ∷ os) zero name e h = cc
moved_user (o ∷ os) (suc p) name e h = moved_user os p name e h
