use Rattle.std.proofs.Common.{rules, ◌∙◌, sym}
use Rattle.std.proofs.lemmas.Iterator.{YieldsList-from_slice}
use Rattle.std.proofs.lemmas.Iterator.Search.{any_from_yields_List}
use Rattle.prop_numbers.specs.Sets.{set_of, is_within}
use Rattle.prop_nogoods.proofs.CommonLemmas.{none_without_common}
use Rattle.prop_nogoods.proofs.ending.Ending.has_part.Goals as goal

pub returns-then-is_subset : goal.returns-then-is_subset
returns-then-is_subset c =
    let n = c.args.set.now in
    let sets = c.self.inside.nogoods.items in
    rw (← c.self.view_is)
    (any_from_yields_List (λ line. is_within (set_of n) line) _ _ c.any.result c.any.ensures.ran
    (YieldsList-from_slice sets (cc)) (λ x b q k. search rules))

pub returns-else-is_subset : goal.returns-else-is_subset
returns-else-is_subset c =
    let w = set_of c.args.set.now in
    rw (← c.self.view_is) (c.if-is_subset.false
    ∙ sym (none_without_common w c.self.inside.common c.self.inside.nogoods.items
    (sym c.is_subset.ensures ∙ c.if-is_subset.false) c.self.invariant.2))
