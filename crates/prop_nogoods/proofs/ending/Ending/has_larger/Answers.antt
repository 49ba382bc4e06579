use Rattle.std.proofs.Common.{◌≡◌, ◌≤◌, false, arith}
use Rattle.std.proofs.lemmas.Bool.Decides.{nat_tests}
use Rattle.prop_numbers.specs.Sets.{set_of}
use Rattle.prop_nogoods.specs.Stores.{has_part}
use Rattle.prop_nogoods.proofs.CommonLemmas.{part_of_no_larger}
use Rattle.prop_nogoods.proofs.ending.Ending.has_larger.Goals as goal

pub returns-else-size-self : goal.returns-else-size-self
returns-else-size-self c none =
    let n = c.args.nogood.now in
    let sets = c.self.inside.nogoods.items in
    let least : c.self.inside.largest ≤ c.size.result = grind (arith, nat_tests) in
    let no_part : has_part sets (set_of n) ≡ false = rw (← c.self.view_is) at c.requires.no_part in
    rw (← c.self.view_is) (part_of_no_larger c.self.inside.largest sets n c.requires.in_order c.self.invariant.3
    (omega (arith, least, c.size.ensures)) no_part)
