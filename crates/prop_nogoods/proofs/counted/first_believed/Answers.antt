use Rattle.std.proofs.Common.{◌≡◌, rules}
use Rattle.std.specs.List.{find}
use Rattle.std.specs.Option.{option_map}
use Rattle.std.proofs.lemmas.Iterator.{YieldsList-from_slice}
use Rattle.std.proofs.lemmas.Iterator.Search.{find_from_yields_List}
use Rattle.prop_numbers.specs.Sets.{set_of, is_within}
use Rattle.prop_nogoods.proofs.StoreLemmas.{none_found, smallest_found}
use Rattle.prop_nogoods.proofs.counted.first_believed.Goals as goal

found : (c : goal.After-find) → option_map (λ x. x.now) c.find.result ≡ find
    (λ line. is_within (set_of c.args.worldview.now) line) c.args.counted.now
found c =
    find_from_yields_List (λ line. is_within (set_of c.args.worldview.now) line) _ _ c.find.result c.find.ensures.ran
    (YieldsList-from_slice c.args.counted.now (cc)) (λ x b q k. search rules)

pub returns-clause-smallest : goal.returns-clause-smallest
returns-clause-smallest c by_size =
    smallest_found (λ line. is_within (set_of c.args.worldview.now) line) c.args.counted.now c.find.result (λ x. x.now)
    (found c) by_size

pub returns-clause-none : goal.returns-clause-none
returns-clause-none c none = none_found c.args.counted.now (set_of c.args.worldview.now) c.find.result (λ x. x.now)
    (found c) none
