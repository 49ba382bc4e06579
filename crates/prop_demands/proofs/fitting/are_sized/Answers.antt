use Rattle.std.proofs.Common.{◌≡◌, true}
use Rattle.prop_procedures.specs.declared.shape.Kinded.{Kinded}
use Rattle.prop_compound.specs.Kinds.{IsSized}
use Rattle.prop_demands.proofs.Lists.{all_more, all_taken}
use Rattle.prop_demands.proofs.fitting.are_sized.Goals as goal

pub loop-kinded-preserved : goal.loop-kinded-preserved
loop-kinded-preserved c =
    let yes : c.is_sized.result ≡ true = cc in
    all_more (λ (k : Kinded). IsSized c.args.words.now k) c.args.fresh.now c.loop-kinded.kinded-index _
    c.loop-kinded-test.true c.loop-kinded.invariant (c.is_sized.ensures yes)

pub returns : goal.returns
returns c = λ t. all_taken (λ (k : Kinded). IsSized c.args.words.now k) c.args.fresh.now c.loop-kinded.kinded-index
    c.loop-kinded-test.false c.loop-kinded.invariant
