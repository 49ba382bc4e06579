-- The rules of excluding: their forms, what they answer, and which points belong together.
use Rattle.std.specs.Prelude.{◌≡◌, ℕ, ◌==◌, if◌then◌else◌, List, [], ◌∷◌, codes, length, replicate}
use Rattle.prop_lattice.specs.Points.{Point}
use Rattle.prop_lattice.specs.declared.info.Info.{Info}
use Rattle.prop_lattice.specs.declared.info.Info.TheVariants.{Nothing}
use Rattle.prop_procedures.specs.declared.shape.Need.{Need}
use Rattle.prop_procedures.specs.declared.shape.Need.TheVariants as needs
use Rattle.prop_procedures.specs.declared.shape.Param.{Param}
use Rattle.prop_procedures.specs.declared.shape.Param.TheVariants.{Rows}
use Rattle.prop_procedures.specs.declared.shape.Shape.{Shape}
use Rattle.prop_procedures.specs.declared.shape.Shape.TheVariants.{Any, From}
use Rattle.prop_sets.specs.Relation.{Relation}
use Rattle.prop_hall.specs.Excluding.{excluded_of}
use Rattle.prop_hall.specs.Hulls.{all_of, narrowed}
use Rattle.prop_hall.specs.Points.{AreDifferent}
use Rattle.prop_hall.specs.declared.excluder.Excluder.{Excluder}
use Rattle.prop_hall.specs.declared.excluder.Excluder.TheVariants.{One, Two, Three, Four, Five, Six}
use Rattle.prop_hall.specs.declared.excluder.Excluder.TheVariants.{Seven, Eight}

-- the rules in order
abbrev pub in_order : List Excluder
in_order = One ∷ Two ∷ Three ∷ Four ∷ Five ∷ Six ∷ Seven ∷ Eight ∷ []

-- the name that a command uses
abbrev pub name_of : Excluder → List ℕ
name_of One = codes "excluder1"
name_of Two = codes "excluder2"
name_of Three = codes "excluder3"
name_of Four = codes "excluder4"
name_of Five = codes "excluder5"
name_of Six = codes "excluder6"
name_of Seven = codes "excluder7"
name_of Eight = codes "excluder8"

-- how many others there are
abbrev pub others_of : Excluder → ℕ
others_of One = 1
others_of Two = 2
others_of Three = 3
others_of Four = 4
others_of Five = 5
others_of Six = 6
others_of Seven = 7
others_of Eight = 8

-- the inputs: y and the others, all of one kind; eight others stand alone
abbrev pub ins_of : Excluder → List Shape
ins_of Eight = replicate 8 From
ins_of rule = Any 0 ∷ replicate (others_of rule) (Any 0)

-- the output, which is y
abbrev pub out_of : Excluder → Shape
out_of Eight = From
out_of rule = Any 0

-- beside eight others a relation tells the domain
abbrev pub need_of : Excluder → Need
need_of Eight = needs.Rows
need_of rule = needs.Nothing

-- the one form of a rule
abbrev pub FormOf : Excluder → List Shape → Shape → Need → Type 0
FormOf rule ins out need = (ins ≡ ins_of rule) × (out ≡ out_of rule) × (need ≡ need_of rule)

-- what so many others tell of y, which is the first argument
abbrev pub beside : ℕ → List Info → Info
beside many [] = Nothing
beside many (y ∷ others) = if length others == many then excluded_of y others else Nothing

-- what eight others leave of the elements of the relation's first domain
abbrev pub left_by : Relation → List Info → Info
left_by m others = narrowed m.from.size (excluded_of (all_of m.from.size) others)

abbrev pub among : Param → List Info → Info
among (Rows m) others = if length others == 8 then left_by m others else Nothing
among param others = Nothing

-- what a rule answers, and nothing to arguments that are more or fewer
abbrev pub value_of : Excluder → Param → List Info → Info
value_of Eight param args = among param args
value_of rule param args = beside (others_of rule) args

-- the point of the output is that of y, and no two points are the same
abbrev pub IsAnother : List Point → Point → Type 0
IsAnother [] point = ⊥
IsAnother (y ∷ others) point = (point ≡ y) × AreDifferent (y ∷ others)

-- the points that belong together
abbrev pub Related : Excluder → Param → List Point → Point → Type 0
Related Eight param points point = AreDifferent (point ∷ points)
Related rule param points point = IsAnother points point
