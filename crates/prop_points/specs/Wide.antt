-- What the answers of the rules beside the kit's to single points tell: each point that they hold
-- belongs to these.
use Rattle.std.specs.Prelude.{List}
use Rattle.prop_procedures.specs.declared.shape.Need.{Need}
use Rattle.prop_procedures.specs.declared.shape.Shape.{Shape}
use Rattle.prop_hall.specs.Excluder as excluders
use Rattle.prop_hall.specs.declared.excluder.Excluder.{Excluder}
use Rattle.prop_wide.specs.Points.{Related}
use Rattle.prop_wide.specs.Values.{value_of}
use Rattle.prop_wide.specs.Wide.{FormOf}
use Rattle.prop_wide.specs.declared.wide.Wide.{Wide}
use Rattle.prop_points.specs.Singles.{IsExact}

-- of the wide rules
abbrev pub WideIsExact : Type 0
WideIsExact =
    (rule : Wide) (ins : List Shape) (out : Shape) (need : Need) → FormOf rule ins out need
    → IsExact (value_of rule) (Related rule) ins out need

-- of the rules of excluding
abbrev pub ExcludersAreExact : Type 0
ExcludersAreExact =
    (rule : Excluder) (ins : List Shape) (out : Shape) (need : Need)
    → excluders.FormOf rule ins out need
    → IsExact (excluders.value_of rule) (excluders.Related rule) ins out need
