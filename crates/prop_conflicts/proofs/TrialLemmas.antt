-- What a search answers of the premises that are tried.
use Rattle.std.proofs.Common.{◌≡◌, ◌∙◌, ◌≤◌, ℕ, List, [], All, length, take, sym, ap, subst, arith, None, Some}
use Rattle.std.specs.Prelude.{IfSome, Option}
use Rattle.prop_lattice.specs.Points.{Point}
use Rattle.prop_numbers.specs.Sets.{Members, IsPart, set_of}
use Rattle.prop_premises.specs.Origins.{Origin, believed_in, choices_of}
use Rattle.prop_premises.specs.declared.choice.Choice.{Choice}
use Rattle.prop_procedures.specs.Stored.{Stored}
use Rattle.prop_procedures.specs.declared.shape.Kinded.{Kinded}
use Rattle.prop_cells.specs.Data.{Data}
use Rattle.prop_cells.specs.Instances.{Instance, constraint_of}
use Rattle.prop_cells.specs.Points.{Attached}
use Rattle.prop_cells.specs.inner.Problems.{Meets}
use Rattle.prop_plans.specs.Plans.{AreValues, value_in}
use Rattle.prop_plans.specs.Held.{attached_of}
use Rattle.prop_facts.specs.declared.fact.Literal.{Literal}
use Rattle.prop_deriving.specs.Known.{AreKnown, IsExcused, IsKnown}
use Rattle.prop_solve.specs.Answers.{AsksTheSame, IsAnswer, IsFound, IsRefuted as IsRefutedBy}
use Rattle.prop_solve.specs.Questions.{excused_then}
use Rattle.prop_spread.specs.Proposals.{IsProposed, Proposed}
use Rattle.prop_solve.specs.Searches.{IsSearch, Search, bare}
use Rattle.prop_solve.specs.declared.question.Goal.{Goal}
use Rattle.prop_solve.specs.declared.question.Goal.TheVariants.{Any}
use Rattle.prop_solve.specs.declared.solver.Answer.{Answer}
use Rattle.prop_solve.specs.declared.solver.Answer.TheVariants.{Found, Refuted, Unsettled}
use Rattle.prop_solve.specs.declared.solver.Plan.{Plan as PlanOf}
use Rattle.prop_conflicts.specs.Conflicts.{Fits, Ground, IsRefuted}
use Rattle.prop_conflicts.specs.declared.trial.Trial.{Trial}
use Rattle.prop_conflicts.specs.inner.Trials.{IsTrial, data_of}
use Rattle.prop_conflicts.proofs.FitLemmas.{FitsBy, fits_by}

-- ---- a search, wherever entries and parameters stand

moved_proposal : (library : List Stored) (d e : Data) (premises : List Origin) (p : Option Proposed)
    → e.kinds ≡ d.kinds → e.instances ≡ d.instances → IfSome p (IsProposed library d premises)
    → IfSome p (IsProposed library e premises)
moved_proposal library d e premises None kinds instances h = tt
moved_proposal library d e premises (Some p) kinds instances h = record {
  sides = h.sides;
  view = h.view;
  under_way = record {
    fitting = λ t. subst (λ (ks : List Kinded). AreValues ks p.check.values) (sym kinds) (h.under_way.fitting t);
    within = subst (λ (xs : List Instance). p.check.met ≤ length xs) (sym instances) h.under_way.within;
    met = subst (λ (xs : List Instance).
        All (λ x. Meets (value_in p.check.values) (constraint_of library x)) (take p.check.met xs))
        (sym instances) h.under_way.met;
  };
}

-- of the same cells, statements and instances
pub moved_search : (library : List Stored) (d e : Data) (premises : List Origin) (s : Search)
    → attached_of e ≡ attached_of d → IsSearch library d premises s → IsSearch library e premises s
moved_search library d e premises s same h = record {
  root = h.root;
  nogoods = subst (λ (n : Attached). AreKnown library n (choices_of premises) (believed_in premises) s.excuses
      s.spread.nogoods) (sym same) h.nogoods;
  learning = subst (λ (n : Attached). IfSome s.learning (IsKnown library n (choices_of premises)
      (believed_in premises) s.excuses)) (sym same) h.learning;
  proposal = moved_proposal library d e premises s.proposal (ap (λ (n : Attached). n.kinds) same)
      (ap (λ (n : Attached). n.instances) same) h.proposal;
  refuted = subst (λ (n : Attached). IfSome s.refuted (λ ps. IsKnown library n (choices_of premises)
      (believed_in premises) s.excuses (bare ps))) (sym same) h.refuted;
}

-- ---- what is answered

module _ (g : Ground) (d : Data) (same : attached_of d ≡ g.attached) (premises : List Origin) (old new : Search)
    (choices : choices_of premises ≡ choices_of g.premises) where
  -- a plan of a search in which these are believed
  pub found_fits : (s : Members) (values : _) (sides : _) → IsPart s (believed_in premises)
      → IsFound g.library d premises old values sides new → Fits g s
  found_fits s values sides part f =
      let here : FitsBy g.library (attached_of d) (choices_of premises) (believed_in premises) =
      (sides, f.single.0, f.sided, f.satisfied f.single.0 f.single.1) in
      let there = subst (λ (n : Attached). FitsBy g.library n (choices_of premises) (believed_in premises)) same here in
      fits_by g.library g.attached (choices_of g.premises) s (believed_in premises) part
      (subst (λ (cs : List Choice). FitsBy g.library g.attached cs (believed_in premises)) choices there)

  none_excused : (excuses : List (List Literal)) (points : ℕ → Point) (list : List ℕ) → excuses ≡ []
      → IsExcused (attached_of d) excuses points list → ⊥
  none_excused excuses points list none e =
      let there = (subst (λ (x : List (List Literal)). IsExcused (attached_of d) x points list) none e).1 in
      absurd (omega (arith, there.1))

  -- a refutation of it
  pub refuted_so : (by : List ℕ) → IsPart (set_of by) (believed_in g.premises) → old.excuses ≡ []
      → IsRefutedBy g.library d premises old by new → IsRefuted g by
  refuted_so by believed none r = record {
    believed = believed;
    none = λ f.
        let here = subst (λ (cs : List Choice). FitsBy g.library g.attached cs (set_of by)) (sym choices) f in
        let there = subst (λ (n : Attached). FitsBy g.library n (choices_of premises) (set_of by)) (sym same) here in
        none_excused old.excuses there.1 there.0 none (r.refuted there.0 there.1 there.2 there.3);
  }

  -- nothing is ever excused where any points will do
  pub still_none : (answer : Answer) → IsAnswer g.library d premises old answer new → old.goal ≡ Any
      → old.excuses ≡ [] → new.excuses ≡ []
  still_none (Found plan) h any none =
      h.excused ∙ ap (λ (goal : Goal). excused_then goal old.excuses h.facts) any ∙ none
  still_none (Refuted by) h any none = h.same ∙ none
  still_none Unsettled h any none = h ∙ none

-- ---- a trial that goes on

module _ (g : Ground) (d : Data) (same : attached_of d ≡ g.attached) (t : Trial) (h : IsTrial g t) (new : Search)
    (answer : Answer) (is : IsAnswer g.library d t.premises t.solver answer new) where
  pub trial_on : AsksTheSame t.solver new → IsSearch g.library d t.premises new
      → IsTrial g (record { kept = t.kept; premises = t.premises; solver = new })
  trial_on asks search = record {
    choices = h.choices;
    has = h.has;
    search = moved_search g.library d (data_of g.attached) t.premises new (sym same) search;
    goal = asks.goal ∙ h.goal;
    excuses = still_none g d same t.premises t.solver new h.choices answer is h.goal h.excuses;
  }

  pub outcome_found : (plan : PlanOf) → answer ≡ Found plan → Fits g (set_of t.kept)
  outcome_found plan e =
      found_fits g d same t.premises t.solver new h.choices (set_of t.kept) plan.values.items plan.sides.items h.has
      (subst (λ (a : Answer). IsAnswer g.library d t.premises t.solver a new) e is)

  pub outcome_refuted : (by : List ℕ) → answer ≡ Refuted by → IsPart (set_of by) (believed_in g.premises)
      → IsRefuted g by
  outcome_refuted by e believed =
      refuted_so g d same t.premises t.solver new h.choices by believed h.excuses
      (subst (λ (a : Answer). IsAnswer g.library d t.premises t.solver a new) e is)
