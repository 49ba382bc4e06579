use Rattle.std.proofs.Common.{◌≡◌, ◌∙◌}
use Rattle.prop_intervals.specs.Roots.{root_of}
use Rattle.prop_intervals.specs.laws.RootLaws.{root_of-narrowest, root_of_is}
use Rattle.prop_intervals.proofs.roots.root.Goals as goal

value_is : (c : goal.After-by_distance) → c.by_distance.result ≡ root_of c.args.y c.args.x
value_is c = c.by_distance.ensures ∙ root_of_is c.args.y c.args.x

pub returns-clause-value : goal.returns-clause-value
returns-clause-value c = value_is c

pub returns-clause-narrowest : goal.returns-clause-narrowest
returns-clause-narrowest c = rw (value_is c) (root_of-narrowest c.args.y c.args.x)
