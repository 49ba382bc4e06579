use Rattle.std.proofs.Common.{arith, ◌≡◌}
use Rattle.std.proofs.lemmas.Grind.{common_steps}
use Rattle.prop_intervals.specs.Comparisons.{without_of}
use Rattle.prop_intervals.specs.laws.ComparisonLaws.{without_of-narrowest}
use Rattle.prop_lattice.specs.declared.info.Info.TheVariants.{Span}
use Rattle.prop_intervals.proofs.removal.without.Goals as goal

pub returns-then-lo-x-clause-narrowest : goal.returns-then-lo-x-clause-narrowest
returns-then-lo-x-clause-narrowest c =
    let is : c.between.result ≡ without_of c.args.y c.args.x = grind (arith, common_steps) in
    rw is (without_of-narrowest c.args.y c.args.x)

pub returns-then-hi-x-clause-narrowest : goal.returns-then-hi-x-clause-narrowest
returns-then-hi-x-clause-narrowest c =
    let is : c.between-then-hi-x.result ≡ without_of c.args.y c.args.x = grind (arith, common_steps) in
    rw is (without_of-narrowest c.args.y c.args.x)

pub returns-else-hi-x-clause-narrowest : goal.returns-else-hi-x-clause-narrowest
returns-else-hi-x-clause-narrowest c =
    let is : Span c.args.y ≡ without_of c.args.y c.args.x = grind (arith, common_steps) in
    rw is (without_of-narrowest c.args.y c.args.x)
