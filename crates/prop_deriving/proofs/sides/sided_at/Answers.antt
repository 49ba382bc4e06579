use Rattle.std.proofs.Common.{◌∙◌, ◌+◌, ap, refl}
use Rattle.prop_plans.specs.Held.{attached_of}
use Rattle.prop_deriving.proofs.SidingLemmas.{sided_is}
use Rattle.prop_deriving.proofs.sides.sided_at.Goals as goal

pub returns : goal.returns
returns c = λ choices at.
    let said = c.in_ok-said.said.now in
    let there = c.in_ok-said.ensures.lookup in
    let side = c.in_ok-side.ensures in
    sided_is (attached_of c.args.cells.now) choices c.args.choice c.statements.result.now said _ c.args.number
    c.statements.ensures at there.3.0 there.1 refl refl side.0 side.1
    (c.in_ok-place.ensures.1 ∙ ap (λ k. k + c.args.number) c.len.ensures.count)
