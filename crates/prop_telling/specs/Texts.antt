-- The texts of what is told.
use Rattle.std.specs.Prelude.{ℕ, List, [], ◌++◌, codes}
use Rattle.prop_lattice.specs.declared.info.Info.{Info}
use Rattle.prop_texts.specs.Texts.{equation, because}
use Rattle.prop_workbench.specs.Machine.{State}
use Rattle.prop_workbench.specs.inner.Machine.{text_at}
use Rattle.prop_notes.specs.Texts.{cell_text}

-- what is said of a cell, and the premises on which it rests
abbrev pub says_text : State → ℕ → Info → List ℕ → List ℕ
says_text s cell v premises =
    equation (cell_text s.names cell) (text_at s cell v) (because s.premises [] premises)

-- lines of a reply, the first of which says how many follow
abbrev pub two_lines : List ℕ → List ℕ → List ℕ
two_lines sides end = codes "step 2\nsides:" ++ (sides ++ (codes "\n" ++ end))

abbrev pub three_lines : List ℕ → List ℕ → List ℕ → List ℕ
three_lines sides done after =
    codes "step 3\nsides:" ++ (sides ++ (codes "\n" ++ (done ++ (codes "\n" ++ after))))
