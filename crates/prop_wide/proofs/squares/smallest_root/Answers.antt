use Rattle.std.proofs.Common.{arith, to_z, of_z, ◌-ℤ◌, pos}
use Rattle.std.specs.Int.{w128}
use Rattle.std.proofs.lemmas.Int.{ints}
use Rattle.prop_intervals.proofs.RootLemmas.{least_root_is, least_root_small, least_root_none}
use Rattle.prop_wide.proofs.squares.smallest_root.Goals as goal

pub returns-then-m-le0-clause-value : goal.returns-then-m-le0-clause-value
returns-then-m-le0-clause-value c = least_root_none c.args.m (omega (arith, ints))

pub returns-else-m-le0-clause-value : goal.returns-else-m-le0-clause-value
returns-else-m-le0-clause-value c =
    let is = least_root_is c.args.m (to_z w128 (of_z w128 (to_z w128 (of_z w128 c.args.m) -ℤ pos 1))) c.isqrt.result
    (omega (arith, ints)) (omega (arith, ints)) c.isqrt.ensures in
    omega (arith, ints, least_root_small c.args.m (omega (arith, ints)))
