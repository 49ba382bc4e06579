-- Lessons: nogoods that nothing meets, with the network and the choices for which that was found.
use Rattle.std.specs.Prelude.{List, All}
use Rattle.prop_numbers.specs.Sets.{Members, IsPart, set_of}
use Rattle.prop_premises.specs.declared.choice.Choice.{Choice}
use Rattle.prop_procedures.specs.Stored.{Stored}
use Rattle.prop_cells.specs.Points.{Attached}
use Rattle.prop_refuting.specs.Nogoods.{Nogood, IsNeverMet}

-- a network and the choices as they were
pub record PastOf : Type 0 where
  pub attached : Attached
  pub choices : List Choice

-- nogoods, with the network and the choices as they were when they were found
pub record Taught : Type 0 where
  pub attached : Attached
  pub choices : List Choice
  pub nogoods : List Nogood

-- nothing meets any of the nogoods
abbrev pub AreTaught : List Stored → Taught → Type 0
AreTaught library t = All (IsNeverMet library t.attached t.choices) t.nogoods

-- nothing meets the nogood, whose premises are all in the set
pub record Stands (library : List Stored) (n : Attached) (choices : List Choice) (s : Members)
    (g : Nogood) : Type 0 where
  pub within : IsPart (set_of g.premises) s
  pub never : IsNeverMet library n choices g
