use Rattle.std.proofs.Common.{arith, to_z, of_z, w64}
use Rattle.std.proofs.lemmas.Int.{ints}
use Rattle.prop_intervals.proofs.RootLemmas.{greatest_root_is}
use Rattle.prop_intervals.proofs.roots.largest_root.Goals as goal

pub returns-clause-value : goal.returns-clause-value
returns-clause-value c =
    let is = greatest_root_is c.args.m (to_z w64 (of_z w64 c.args.m)) c.isqrt.result c.requires.least
    (omega (arith, ints)) c.isqrt.ensures in
    omega (arith, ints)
