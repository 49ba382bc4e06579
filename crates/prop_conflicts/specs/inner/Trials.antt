-- What is known of a trial, which finds out whether some premises fit, and what it comes to.
use Rattle.std.specs.Prelude.{◌≡◌, ℕ, List, [], Option, Some, None, ⊤}
use Rattle.prop_numbers.specs.Sets.{IsPart, set_of}
use Rattle.prop_premises.specs.Origins.{believed_in, choices_of}
use Rattle.prop_cells.specs.Data.{Data}
use Rattle.prop_cells.specs.Points.{Attached}
use Rattle.prop_solve.specs.Searches.{IsSearch}
use Rattle.prop_solve.specs.declared.question.Goal.TheVariants.{Any}
use Rattle.prop_conflicts.specs.Conflicts.{Fits as CanHold, Ground, IsRefuted}
use Rattle.prop_conflicts.specs.declared.trial.Outcome.{Outcome}
use Rattle.prop_conflicts.specs.declared.trial.Outcome.TheVariants.{Fits, Refuted, Open, Lost}
use Rattle.prop_conflicts.specs.declared.trial.Trial.{Trial}

-- data of cells with statements and instances, and nothing else
abbrev pub data_of : Attached → Data
data_of n = record {
  kinds = n.kinds;
  contents = [];
  params = [];
  statements = n.statements;
  instances = n.instances;
}

-- the trial is a search for any points, in which at least the premises that are tried are believed,
-- and nothing is excused
pub record IsTrial (g : Ground) (t : Trial) : Type 0 where
  pub choices : choices_of t.premises ≡ choices_of g.premises
  pub has : IsPart (set_of t.kept) (believed_in t.premises)
  pub search : IsSearch g.library (data_of g.attached) t.premises t.solver
  pub goal : t.solver.goal ≡ Any
  pub excuses : t.solver.excuses ≡ []

-- what the outcome says of these premises is so: that they can hold, or that some are refuted
abbrev pub IsOutcome : Ground → List ℕ → Outcome → Type 0
IsOutcome g kept Fits = CanHold g (set_of kept)
IsOutcome g kept (Refuted by) = IsRefuted g by
IsOutcome g kept Open = ⊤
IsOutcome g kept Lost = ⊤

-- the same of the premises of a trial; where there is none, the outcome is `Lost`
abbrev pub IsOutcomeIn : Ground → Option Trial → Outcome → Type 0
IsOutcomeIn g (Some t) outcome = IsOutcome g t.kept outcome
IsOutcomeIn g None outcome = outcome ≡ Lost
