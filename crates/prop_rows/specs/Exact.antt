-- What the answers of the rules of rows to single points tell: each point that they hold belongs to
-- these.
use Rattle.std.specs.Prelude.{List}
use Rattle.prop_points.specs.Singles.{IsExact}
use Rattle.prop_procedures.specs.declared.shape.Need.{Need}
use Rattle.prop_procedures.specs.declared.shape.Shape.{Shape}
use Rattle.prop_rows.specs.Row.{FormOf, Related, value_of}
use Rattle.prop_rows.specs.declared.row.Row.{Row}

abbrev pub RowsAreExact : Type 0
RowsAreExact =
    (rule : Row) (ins : List Shape) (out : Shape) (need : Need) → FormOf rule ins out need
    → IsExact (value_of rule) (Related rule) ins out need
