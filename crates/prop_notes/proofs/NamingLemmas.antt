-- The names of cells, one more at a time.
use Rattle.std.proofs.Common.{◌≡◌, ◌∙◌, ◌+◌, ◌<◌, ℕ, List, [], ◌∷◌, ◌++◌, length, take, sym, ap}
use Rattle.std.proofs.Common.{append-nil, get_or}
use Rattle.std.proofs.lemmas.List.{take_more}
use Rattle.std.proofs.lemmas.List.Concat.{flat_map-append}
use Rattle.prop_vocabulary.specs.Cells.{CellNames}
use Rattle.prop_notes.specs.Notes.{Notes}
use Rattle.prop_notes.specs.Naming.{cell_name, cell_names}

-- one more cell
pub names_more : (notes : Notes) (names : CellNames) (cells : List ℕ) (i d : ℕ) (before name : List ℕ)
    → i < length cells → before ≡ cell_names notes names (take i cells)
    → name ≡ cell_name notes names (get_or cells i d)
    → before ++ (32 ∷ name) ≡ cell_names notes names (take (i + 1) cells)
names_more notes names cells i d before name l is named =
    let f : ℕ → List ℕ = λ cell. 32 ∷ cell_name notes names cell in
    let x = get_or cells i d in
    (λ j. is j ++ (32 ∷ named j)) ∙ ap (λ t. cell_names notes names (take i cells) ++ t) (sym (append-nil (f x)))
    ∙ sym (flat_map-append f (take i cells) (x ∷ [])) ∙ ap (cell_names notes names) (sym (take_more cells i d l))
