-- What a search answers.
use Rattle.std.specs.Prelude.{◌≡◌, ℕ, List, Option, Some, None}
use Rattle.prop_lattice.specs.Points.{Point}
use Rattle.prop_lattice.specs.declared.info.Info.{Info}
use Rattle.prop_numbers.specs.Sets.{set_of, IsPart}
use Rattle.prop_premises.specs.ChoiceLists.{IsChoiceList, worldview}
use Rattle.prop_premises.specs.Origins.{Origin, choices_of, believed_in}
use Rattle.prop_procedures.specs.Stored.{Stored}
use Rattle.prop_cells.specs.Data.{Data}
use Rattle.prop_cells.specs.Points.{ArePoints}
use Rattle.prop_facts.specs.declared.fact.Literal.{Literal}
use Rattle.prop_plans.specs.Held.{AreHeld, attached_of}
use Rattle.prop_plans.specs.Plans.{Satisfy}
use Rattle.prop_deriving.specs.Known.{IsExcused}
use Rattle.prop_spread.specs.Proposals.{AreSingle}
use Rattle.prop_solve.specs.Questions.{AreExcusing, excused_then}
use Rattle.prop_solve.specs.Searches.{Search}
use Rattle.prop_solve.specs.declared.solver.Answer.{Answer}
use Rattle.prop_solve.specs.declared.solver.Answer.TheVariants.{Found, Refuted, Unsettled}

-- both searches ask the same question: one goal, and the same named cells
pub record AsksTheSame (old new : Search) : Type 0 where
  pub goal : new.goal ≡ old.goal
  pub named : new.named ≡ old.named

-- What is so of a plan that is found: a side of each choice, and a value of each cell that leaves a
-- single point. The points satisfy all that is stated under what is believed with these sides, and
-- each procedure holds them. From then on points are excused that have the plan's facts, as the
-- goal has it.
pub record IsFound (library : List Stored) (d : Data) (premises : List Origin) (old : Search)
    (values : List Info) (sides : List ℕ) (new : Search) : Type 0 where
  pub sided : IsChoiceList (choices_of premises) sides
  pub single : AreSingle d values
  pub satisfied :
      Satisfy library d (worldview (believed_in premises) (choices_of premises) sides) values
  pub facts : List Literal
  pub excusing : AreExcusing old.goal old.named values facts
  pub excused : new.excuses ≡ excused_then old.goal old.excuses facts

-- These believed premises are refuted: with any side of each choice, whatever points satisfy what
-- they say are excused. What is excused stays so.
pub record IsRefuted (library : List Stored) (d : Data) (premises : List Origin) (old : Search)
    (by : List ℕ) (new : Search) : Type 0 where
  pub believed : IsPart (set_of by) (believed_in premises)
  pub refuted : (list : List ℕ) (points : ℕ → Point) → IsChoiceList (choices_of premises) list
      → ArePoints (AreHeld library) (attached_of d)
      (worldview (set_of by) (choices_of premises) list) points
      → IsExcused (attached_of d) old.excuses points list
  pub same : new.excuses ≡ old.excuses

-- what the answer says is so; where it says nothing, what is excused stays so
abbrev pub IsAnswer : List Stored → Data → List Origin → Search → Answer → Search → Type 0
IsAnswer library d premises old (Found plan) new =
    IsFound library d premises old plan.values.items plan.sides.items new
IsAnswer library d premises old (Refuted by) new = IsRefuted library d premises old by new
IsAnswer library d premises old Unsettled new = new.excuses ≡ old.excuses

-- P of what was found, or Q where nothing was
abbrev pub IfFound : {A : Type 0} → Option A → (A → Type 0) → Type 0 → Type 0
IfFound (Some a) P Q = P a
IfFound None P Q = Q
