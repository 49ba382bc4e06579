use Rattle.std.proofs.Common.{refl}
use Rattle.prop_compound.specs.Kept.{all_bare}
use Rattle.prop_compound.specs.Expansion.{spare_of, is_spare}
use Rattle.prop_compound.proofs.Firsts.{found_here, not_yet, none_found}
use Rattle.prop_compound.proofs.counting.has_spare.Goals as goal

pub loop-step-init : goal.loop-step-init
loop-step-init c = refl

pub returns-then-is_spare : goal.returns-then-is_spare
returns-then-is_spare c =
    found_here c.args.steps.now c.loop-step.step-index c.step-item.result c.loop-step-test.true c.step-item.is
    (spare_of (is_spare (all_bare c.args.definitions.now)) c.args.given) c.is_spare.result c.is_spare.ensures
    c.if-is_spare.true

pub loop-step-preserved : goal.loop-step-preserved
loop-step-preserved c =
    not_yet c.args.steps.now c.loop-step.step-index c.step-item.result c.loop-step-test.true c.step-item.is
    (spare_of (is_spare (all_bare c.args.definitions.now)) c.args.given) c.is_spare.result c.is_spare.ensures
    c.if-is_spare.false c.loop-step.invariant

pub returns : goal.returns
returns c =
    none_found (spare_of (is_spare (all_bare c.args.definitions.now)) c.args.given) c.args.steps.now
    c.loop-step.step-index c.loop-step-test.false c.loop-step.invariant
