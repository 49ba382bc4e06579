-- What the places of a procedure have, by name.
use Rattle.std.specs.Prelude.{◌≡◌, ℕ, ⊤, Bool, true, IfSome, List, [], ◌∷◌, ◌++◌, map, zip}
use Rattle.std.specs.List.{AllZip}
use Rattle.prop_lattice.specs.Points.{Point, IsPointOf}
use Rattle.prop_lattice.specs.Rank.{IsOf}
use Rattle.prop_lattice.specs.declared.info.Info.{Info}
use Rattle.prop_procedures.specs.contracts.shape.KindedPartialEq.TheImpl.{eq-value as same_kind}
use Rattle.prop_procedures.specs.declared.shape.Kinded.{Kinded}
use Rattle.prop_procedures.specs.declared.shape.Need.{Need}
use Rattle.prop_procedures.specs.declared.shape.Need.TheVariants as needs
use Rattle.prop_procedures.specs.declared.shape.Param.{Param}
use Rattle.prop_procedures.specs.declared.shape.Param.TheVariants as params
use Rattle.prop_procedures.specs.declared.shape.Shape.{Shape}
use Rattle.prop_procedures.specs.declared.shape.Shape.TheVariants.{From, To}
use Rattle.prop_procedures.specs.Fitting.{kind_at}
use Rattle.prop_procedures.specs.Rules.{kind_of, is_scale, side_kind, sides_of}
use Rattle.prop_procedures.specs.Stored.{Stored}

-- kind and size are the same
abbrev pub is_same : Kinded → Kinded → Bool
is_same a b = same_kind.it a b

-- each information is of its shape's kind
abbrev pub AreOf : (Shape → Kinded) → List Shape → List Info → Type 0
AreOf any = AllZip (λ s a. IsOf (kind_of any s).kind (kind_of any s).size a)

-- each point is of its shape's kind
abbrev pub ArePointsOf : (Shape → Kinded) → List Shape → List Point → Type 0
ArePointsOf any = AllZip (λ s p. IsPointOf (kind_of any s).kind (kind_of any s).size p)

-- the shapes of a procedure's places, each with the kind of its cell
abbrev pub places_of : Stored → List Kinded → List ℕ → List (Shape × Kinded)
places_of p kinds cells = zip (p.ins ++ p.out ∷ []) (map (kind_at kinds) cells)

-- ---- parameters

-- the procedure may be given this parameter
abbrev pub Admits : Need → Param → Type 0
Admits needs.Nothing params.Plain = ⊤
Admits needs.Scale (params.Scale k) = is_scale k ≡ true
Admits needs.Rows (params.Rows r) = ⊤
Admits need param = ⊥

-- the kinds of the shapes From and To are those of the relation's sides, where the parameter is one
abbrev pub AreSides : (Shape → Kinded) → Param → Type 0
AreSides any param =
    IfSome (sides_of param) (λ s. (any From ≡ side_kind s.0) × (any To ≡ side_kind s.1))
