use Rattle.std.proofs.Common.{ap, sym, ◌∙◌}
use Rattle.std.proofs.lemmas.List.{take_all}
use Rattle.std.specs.List.{list_any}
use Rattle.prop_procedures.specs.Kept.{stored_of}
use Rattle.prop_language.specs.Said.{step_of}
use Rattle.prop_compound.specs.Defining.{is_unknown, is_count_wrong}
use Rattle.prop_compound.proofs.Firsts.{list_any-map}
use Rattle.prop_compound.proofs.definitions.Definitions.all_numbered.Goals as goal

pub returns-clause-unknown : goal.returns-clause-unknown
returns-clause-unknown g c =
    let is_so = is_unknown (stored_of g.R.Rule.value_of c.args.library.now) c.args.self.now in
    c.loop-step.invariant.unknown
    ∙ ap (list_any (λ step. is_so (step_of step)))
    (take_all c.loop-step.step-index c.args.steps.now c.loop-step-test.false)
    ∙ sym (list_any-map step_of is_so c.args.steps.now)

pub returns-clause-counts : goal.returns-clause-counts
returns-clause-counts g c =
    let is_so = is_count_wrong (stored_of g.R.Rule.value_of c.args.library.now) c.args.self.now in
    c.loop-step.invariant.counts
    ∙ ap (list_any (λ step. is_so (step_of step)))
    (take_all c.loop-step.step-index c.args.steps.now c.loop-step-test.false)
    ∙ sym (list_any-map step_of is_so c.args.steps.now)
