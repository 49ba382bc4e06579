use Rattle.std.proofs.Common.{◌≡◌, ◌∙◌, false}
use Rattle.prop_numbers.specs.Sets.{set_of}
use Rattle.prop_nogoods.specs.Stores.{has_part}
use Rattle.prop_nogoods.specs.inner.Endings.{sets_of}
use Rattle.prop_nogoods.specs.inner.Stores.{IsPartOfNone}
use Rattle.prop_nogoods.proofs.AmongLemmas.{has_part-same}
use Rattle.prop_nogoods.proofs.StoreLemmas.{part_of_none-same}
use Rattle.prop_nogoods.proofs.store.Store.has_larger.Goals as goal

pub has_larger_among-requires-clause-no_part : goal.has_larger_among-requires-clause-no_part
has_larger_among-requires-clause-no_part c =
    let w = set_of c.args.nogood.now in
    let none : has_part c.self.inside.nogoods.items w ≡ false = rw (← c.self.view_is) at c.requires.no_part in
    rw c.deref.ensures.value (has_part-same c.self.inside.nogoods.items (sets_of c.self.inside.by_last.items) w
    c.self.invariant.3 ∙ none)

pub returns : goal.returns
returns c none =
    let sets = c.self.inside.nogoods.items in
    let groups = c.self.inside.by_last.items in
    let n = c.args.nogood.now in
    let of_none : IsPartOfNone (sets_of groups) n = rw c.deref.ensures.value at (c.has_larger_among.ensures none) in
    let same = c.self.invariant.3 in
    rw (← c.self.view_is) (part_of_none-same (sets_of groups) sets n
    (record { first = same.second; second = same.first }) of_none)
