use Rattle.std.proofs.Common.{arith, ◌≡◌, ◌≤ℤ◌, ◌^◌, neg_ℤ, pos, ◌-ℤ◌, to_z, of_z}
use Rattle.std.specs.Int.{w128}
use Rattle.std.proofs.lemmas.Int.{ints}
use Rattle.prop_intervals.specs.Quotients.{int_div_ceil}
use Rattle.prop_intervals.proofs.WideLemmas.{opposite_quotient}
use Rattle.prop_intervals.proofs.wide.div_ceil.Goals as goal

divided : (c : goal.After-div_floor)
    → (c.div_floor.result ≡ neg_ℤ (int_div_ceil c.args.a c.args.d)) × (neg_ℤ (pos (2 ^ 126)) ≤ℤ c.div_floor.result)
    × (c.div_floor.result ≤ℤ pos (2 ^ 126))
divided c = opposite_quotient c.args.a c.args.d (to_z w128 (of_z w128 (pos 0 -ℤ to_z w128 (of_z w128 c.args.a))))
    (to_z w128 (of_z w128 c.args.d)) c.div_floor.result c.requires.above c.requires.least c.requires.greatest
    (omega (arith, ints)) (omega (arith, ints)) c.div_floor.ensures

pub overflow_sub-result : goal.overflow_sub-result
overflow_sub-result c = omega (arith, ints, divided c)

pub returns : goal.returns
returns c = omega (arith, ints, divided c)
