use Rattle.std.proofs.Common.{◌∙◌, ap, sym, rules, tests}
use Rattle.std.specs.Prelude.{◌==◌}
use Rattle.std.specs.Option.{option_map}
use Rattle.std.proofs.lemmas.Result.{err_from_is_err_and}
use Rattle.std.proofs.lemmas.Iterator.Consumers.{YieldsList-end, YieldsList-turn}
use Rattle.std.proofs.lemmas.Iterator.Splits.{YieldsList-from_slice_split}
use Rattle.prop_language.specs.inner.Parts.{steps_in_range}
use Rattle.prop_language.proofs.StepLaws.{all_parts, misformed_among}
use Rattle.prop_language.proofs.steps.read_steps.Goals as goal

pub returns-in_err-add_step-clause-err : goal.returns-in_err-add_step-clause-err
returns-in_err-add_step-clause-err c =
    let p = err_from_is_err_and c.from_residual.result c.from_residual.ensures.1 in
    let parts = YieldsList-from_slice_split _ (λ b. b == 59) c.args.bytes.now (cc) (cc) (cc)
    (λ x b q k. search (rules, tests)) in
    let turn = YieldsList-turn parts c.loop-part.yielded _ c.loop-part.yielded_by _ _ c.in-Some.part c.in-Some.is
    c.next.ensures.steps in
    rw (p.1, p.2) (misformed_among c.args.bytes.now _ c.in-Some.part.now _ turn.0 turn.1 c.in_err-add_step.ensures.err)

pub returns-clause-ok : goal.returns-clause-ok
returns-clause-ok c =
    let parts = YieldsList-from_slice_split _ (λ b. b == 59) c.args.bytes.now (cc) (cc) (cc)
    (λ x b q k. search (rules, tests)) in
    let whole = YieldsList-end parts c.loop-part.yielded _ c.loop-part.yielded_by _ _ c.in-None.is c.next.ensures.steps
    in
    ap (option_map steps_in_range) (sym (all_parts c.loop-part.yielded c.args.bytes.now whole.0))
    ∙ c.loop-part.invariant
