use Rattle.std.proofs.Common.{◌∙◌, ap, set, sym}
use Rattle.std.proofs.lemmas.List.Edits.{map_over_more}
use Rattle.prop_nogoods.specs.inner.Endings.{lacking_of}
use Rattle.prop_nogoods.proofs.ending.purge_everywhere.Goals as goal

pub loop-ending-preserved : goal.loop-ending-preserved
loop-ending-preserved c =
    let ys = c.loop-ending.ending-items in
    let i = c.loop-ending.ending-index in
    let left = lacking_of c.args.premise in
    ap (set ys i) (c.purge.ensures ∙ ap left (sym c.ending-item.is))
    ∙ map_over_more left c.args.endings.now ys i c.ending-item.result c.loop-ending-test.true c.loop-ending.invariant
    c.ending-item.is
