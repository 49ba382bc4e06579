use Rattle.prop_lessons.proofs.PairLemmas.{same_partners}
use Rattle.prop_lessons.proofs.params.have_same_partners.Goals as goal

pub returns-in-Some : goal.returns-in-Some
returns-in-Some c h = same_partners c.args.one.now c.args.other.now c.in-Some.single c.args.element
    c.image.result c.image-in-Some.result c.in-Some.ensures c.image.ensures.pairs
    c.image-in-Some.ensures.pairs (c.is_same_info.ensures h)
