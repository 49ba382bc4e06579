-- What the rules answer to single numbers.
use Rattle.std.specs.Prelude.{◌≡◌, ◌≤◌, List, length}
use Rattle.std.specs.List.{AllZip}
use Rattle.prop_lattice.specs.Points.{Point, Number, Holds, IsPointOf}
use Rattle.prop_lattice.specs.declared.info.Info.{Info}
use Rattle.prop_lattice.specs.declared.info.Kind.TheVariants as kinds
use Rattle.prop_procedures.specs.declared.shape.Param.{Param}
use Rattle.prop_wide.specs.Ends.{low_of, high_of}
use Rattle.prop_many.specs.Many.{Related, least_of, value_of}
use Rattle.prop_many.specs.declared.many.Many.{Many}

-- the information leaves only this number
abbrev pub IsJust : Info → Point → Type 0
IsJust a (Number v) = (low_of a ≡ v) × (high_of a ≡ v)
IsJust a p = ⊥

-- each information leaves only the number in its place
abbrev pub AreJust : List Info → List Point → Type 0
AreJust = AllZip IsJust

-- whatever number the answer of a rule to single numbers holds, it belongs to these
abbrev pub EachIsExact : Type 0
EachIsExact =
    (rule : Many) (param : Param) (args : List Info) (points : List Point) (point : Point)
    → least_of rule ≤ length args → AreJust args points → IsPointOf kinds.Span 0 point
    → Holds (value_of rule param args) point → Related rule param points point
