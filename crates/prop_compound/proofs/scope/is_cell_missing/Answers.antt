use Rattle.std.proofs.Common.{refl, sym, arith}
use Rattle.prop_compound.proofs.Scoping.{seen_at, missing_here, seen_more, none_missing}
use Rattle.prop_compound.proofs.scope.is_cell_missing.Goals as goal

pub loop-step-init : goal.loop-step-init
loop-step-init c = record { within = c.requires.count; behind = c.requires.locals; same = refl }

pub returns-then-names_unseen : goal.returns-then-names_unseen
returns-then-names_unseen c =
    let at = seen_at c.args.scope.now c.args.params c.loop-step.seen c.args.steps.now c.loop-step.step-index
    c.step-item.result c.loop-step-test.true c.step-item.is c.loop-step.invariant in
    sym (missing_here _ _ _ _ _ _ at (sym c.if-names_unseen.ensures))

pub prove-unreachable-requires : goal.prove-unreachable-requires
prove-unreachable-requires c =
    let at = seen_at c.args.scope.now c.args.params c.loop-step.seen c.args.steps.now c.loop-step.step-index
    c.step-item.result c.loop-step-test.true c.step-item.is c.loop-step.invariant in
    let more = seen_more _ _ _ _ _ _ at (sym c.if-names_unseen.ensures) in
    omega (arith, more.within, c.count_locals-locals.ensures, c.len-all.ensures)

pub loop-step-preserved : goal.loop-step-preserved
loop-step-preserved c =
    let at = seen_at c.args.scope.now c.args.params c.loop-step.seen c.args.steps.now c.loop-step.step-index
    c.step-item.result c.loop-step-test.true c.step-item.is c.loop-step.invariant in
    rw c.count_locals-locals.ensures (seen_more _ _ _ _ _ _ at (sym c.if-names_unseen.ensures))

pub returns : goal.returns
returns c =
    sym (none_missing c.args.scope.now c.args.params c.loop-step.seen c.args.steps.now c.loop-step.step-index
    c.loop-step-test.false c.loop-step.invariant)
