use Rattle.std.proofs.Common.{arith, to_z, of_z}
use Rattle.std.specs.Int.{w128}
use Rattle.std.proofs.lemmas.Int.{ints}
use Rattle.prop_intervals.proofs.RootLemmas.{greatest_root_is}
use Rattle.prop_wide.proofs.squares.largest_root.Goals as goal

pub returns-clause-value : goal.returns-clause-value
returns-clause-value c =
    let is = greatest_root_is c.args.m (to_z w128 (of_z w128 c.args.m)) c.isqrt.result c.requires.least
    (omega (arith, ints)) c.isqrt.ensures in
    omega (arith, ints)
