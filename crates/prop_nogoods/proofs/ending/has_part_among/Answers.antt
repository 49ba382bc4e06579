use Rattle.std.proofs.Common.{rules, ◌∙◌}
use Rattle.std.proofs.lemmas.Iterator.{YieldsList-from_slice}
use Rattle.std.proofs.lemmas.Iterator.Search.{any_from_yields_List}
use Rattle.prop_numbers.specs.Sets.{set_of}
use Rattle.prop_nogoods.specs.Stores.{has_part}
use Rattle.prop_nogoods.specs.inner.Endings.{Group}
use Rattle.prop_nogoods.proofs.AmongLemmas.{has_part-groups}
use Rattle.prop_nogoods.proofs.ending.has_part_among.Goals as goal

pub returns : goal.returns
returns c =
    let w = set_of c.args.set.now in
    let gs = c.args.endings.now in
    any_from_yields_List (λ (g : Group). has_part g.sets w) _ _ c.any.result c.any.ensures.ran
    (YieldsList-from_slice gs (cc)) (λ x b q k. search rules)
    ∙ has_part-groups gs w
