use Rattle.std.proofs.Common.{[]}
use Rattle.std.proofs.lemmas.Result.{err_from_is_err_and}
use Rattle.prop_sets.proofs.NameLemmas.{no_repeat-push}
use Rattle.prop_compound.proofs.Scoping.{repeat_here, repeat_params, params_more, taken_then}
use Rattle.prop_compound.proofs.scope.push_params.Goals as goal

pub returns-in_err-push_new-clause-why : goal.returns-in_err-push_new-clause-why
returns-in_err-push_new-clause-why c =
    let p = err_from_is_err_and c.from_residual.result c.from_residual.ensures.1 in
    rw (p.1, p.2) (taken_then _ (λ h. repeat_params c.args.params.now c.loop-param.param-index _ c.loop-param-test.true
    c.args.scope.now c.loop-param.scope c.loop-param.invariant.is (repeat_here c.loop-param.scope _ [] h))
    c.in_err-push_new.ensures.why)

pub loop-param-preserved : goal.loop-param-preserved
loop-param-preserved c =
    let new = c.in_ok-push_new.ensures.ok in record {
      is = params_more c.args.params.now c.loop-param.param-index _ c.loop-param-test.true c.args.scope.now
          c.loop-param.scope c.push_new.new.scope c.loop-param.invariant.is new;
      apart = rw new (no_repeat-push c.loop-param.scope _ c.loop-param.invariant.apart c.in_ok-push_new.ensures.new);
    }
