-- The rules of many numbers: of tasks that share a resource, or that may not overlap, of numbers
-- that differ, of circuits, and of tasks that pause. Their forms, what they answer, and which
-- points belong together.
use Rattle.std.specs.Prelude.{◌≡◌, ◌≤◌, ℕ, Bool, true, false, List, length}
use Rattle.std.specs.List.{list_all}
use Rattle.prop_lattice.specs.Points.{Point}
use Rattle.prop_lattice.specs.declared.info.Info.{Info}
use Rattle.prop_procedures.specs.declared.shape.Need.{Need}
use Rattle.prop_procedures.specs.declared.shape.Need.TheVariants as needs
use Rattle.prop_procedures.specs.declared.shape.Param.{Param}
use Rattle.prop_procedures.specs.declared.shape.Shape.{Shape}
use Rattle.prop_procedures.specs.declared.shape.Shape.TheVariants.{Span}
use Rattle.prop_many.specs.Circuit.{RelatesCircuit, circuit_of}
use Rattle.prop_many.specs.Cumulative.{RelatesCumulative, cumulative_of}
use Rattle.prop_many.specs.Differ.{RelatesDiffer, differ_of}
use Rattle.prop_many.specs.Disjoint.{RelatesDisjoint, disjoint_of}
use Rattle.prop_many.specs.Pausing.{RelatesEnding, RelatesStarting, ending_of, starting_of}
use Rattle.prop_many.specs.declared.many.Many.{Many}
use Rattle.prop_many.specs.declared.many.Many.TheVariants.{Circuit, Cumulative, Differ, Disjoint}
use Rattle.prop_many.specs.declared.many.Many.TheVariants.{Ending, Starting}

-- the shape is that of numbers
abbrev pub is_number : Shape → Bool
is_number Span = true
is_number s = false

-- each shape is that of numbers
abbrev pub AreNumbers : List Shape → Type 0
AreNumbers shapes = list_all is_number shapes ≡ true

-- how many inputs a rule has at the least
abbrev pub least_of : Many → ℕ
least_of Cumulative = 4
least_of Disjoint = 2
least_of Differ = 1
least_of Circuit = 2
least_of Ending = 2
least_of Starting = 3

-- the rule may have inputs of these shapes
abbrev pub HasInputs : Many → List Shape → Type 0
HasInputs rule ins = AreNumbers ins × (least_of rule ≤ length ins)

-- the forms of a rule: from so many numbers or more to one number
abbrev pub FormOf : Many → List Shape → Shape → Need → Type 0
FormOf rule ins out need = HasInputs rule ins × (out ≡ Span) × (need ≡ needs.Nothing)

-- what a rule answers: nothing to too few arguments
abbrev pub value_of : Many → Param → List Info → Info
value_of Cumulative param args = cumulative_of args
value_of Disjoint param args = disjoint_of args
value_of Differ param args = differ_of args
value_of Circuit param args = circuit_of args
value_of Ending param args = ending_of args
value_of Starting param args = starting_of args

-- the points that belong together: those of the inputs, and that of the output
abbrev pub Related : Many → Param → List Point → Point → Type 0
Related Cumulative param points point = RelatesCumulative points point
Related Disjoint param points point = RelatesDisjoint points point
Related Differ param points point = RelatesDiffer points point
Related Circuit param points point = RelatesCircuit points point
Related Ending param points point = RelatesEnding points point
Related Starting param points point = RelatesStarting points point
