use Rattle.std.proofs.Common.{◌∙◌, refl, ap, add-one, slice_set}
use Rattle.prop_contents.specs.Changes.{not_on}
use Rattle.prop_contents.proofs.DroppingLaws.{first_gone, first_gone-at, first_gone-more, first_gone-all}
use Rattle.prop_contents.proofs.dropping.drop_entries.Goals as goal

pub loop-content-init : goal.loop-content-init
loop-content-init c = refl

pub loop-content-preserved : goal.loop-content-preserved
loop-content-preserved c =
    let p = c.args.premise in
    let contents = c.args.contents.now in
    let i = c.loop-content.content-index in
    let item = c.content-item.result in
    rw (c.purge.ensures.left, c.loop-content.invariant, add-one)
    (ap (λ x. slice_set (first_gone p i contents) i (not_on p x)) (first_gone-at p i contents item)
    ∙ first_gone-more p i contents item c.loop-content-test.true)

pub returns : goal.returns
returns c = c.loop-content.invariant
    ∙ first_gone-all c.args.premise c.loop-content.content-index c.args.contents.now c.loop-content-test.false
