use Rattle.std.proofs.Common.{◌∙◌, length, refl, ap}
use Rattle.prop_vocabulary.proofs.SideLemmas.{side_is}
use Rattle.prop_vocabulary.proofs.vocabulary.Vocabulary.side.Goals as goal

pub returns-clause-side : goal.returns-clause-side
returns-clause-side c =
    side_is c.args.self.now c.args.number _ refl
    (c.size-size.ensures.size ∙ ap length c.domain.ensures.elements)
