use Rattle.std.proofs.Common.{◌≡◌, All, map, take}
use Rattle.std.specs.Prelude.{IfSome}
use Rattle.std.specs.List.{list_any}
use Rattle.prop_procedures.specs.Kept.{stored_of}
use Rattle.prop_language.specs.Said.{step_of}
use Rattle.prop_compound.specs.Kinds.{IsSized, IsLocalOf}
use Rattle.prop_compound.specs.Defining.{step_numbered, is_unknown, is_count_wrong}
use Rattle.prop_compound.specs.inner.Defining.{used_by}
use Rattle.prop_compound.proofs.definitions.Definitions.all_numbered.Given as goal

abbrev pub invariant-loop-step : goal.invariant-loop-step
invariant-loop-step g l = record {
  steps : l.all.steps.items ≡ map (step_numbered (stored_of g.R.Rule.value_of l.library) l.words l.self l.scope)
      (map step_of (take l.step-index l.steps));
  locals : All (IsLocalOf (IsSized l.words)) l.all.steps.items;
  unknown : l.all.is_unknown ≡ list_any
      (λ step. is_unknown (stored_of g.R.Rule.value_of l.library) l.self (step_of step)) (take l.step-index l.steps);
  counts : l.all.is_count_wrong ≡ list_any (λ step. is_count_wrong (stored_of g.R.Rule.value_of l.library) l.self
      (step_of step)) (take l.step-index l.steps);
  before : IfSome l.previous (λ it. l.used ≡ used_by (stored_of g.R.Rule.value_of l.library) l.self (step_of it.now));
}
