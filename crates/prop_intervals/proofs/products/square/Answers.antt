use Rattle.std.proofs.Common.{rules, ◌≡◌}
use Rattle.prop_intervals.specs.inner.Parts.{square_of}
use Rattle.prop_intervals.specs.laws.SquareLaws.{square_narrowest}
use Rattle.prop_intervals.proofs.products.square.Goals as goal

pub returns-clause-narrowest : goal.returns-clause-narrowest
returns-clause-narrowest c e =
    let is : c.clipped.result ≡ square_of c.args.x = search rules in
    rw is (square_narrowest c.args.x e)
