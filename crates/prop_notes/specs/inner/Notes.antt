-- How paths are added, and notes as they stand in memory.
use Rattle.std.specs.Prelude.{◌≡◌, ◌≤◌, List, [], ◌++◌, length, take}
use Rattle.std.specs.String.{string_bytes}
use Rattle.prop_notes.specs.declared.notes.Note.{Note}
use Rattle.prop_notes.specs.declared.notes.Note.TheVariants as notes
use Rattle.prop_notes.specs.Notes as noted
use Rattle.prop_notes.specs.Notes.{most_paths}

-- more was added behind, but for what there are too many of
pub record AddsPaths {A : Type 0} (old more new : List A) : Type 0 where
  pub few : length new ≤ most_paths
  pub adds : (rest : List A)
      → take most_paths (new ++ rest) ≡ take most_paths (old ++ (more ++ rest))

-- the note without where its texts lie in memory
abbrev pub note_value : Note → noted.Note
note_value (notes.Domain name) = noted.Domain (string_bytes name)
note_value (notes.Definition inner) = noted.Definition inner
note_value (notes.Attached made) = noted.Attached made

-- more was added before these, which are left of all
pub record AddsBefore {A : Type 0} (left all new : List A) : Type 0 where
  pub more : List A
  pub adds : AddsPaths [] more new
  pub split : more ++ left ≡ all
