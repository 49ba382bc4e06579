use Rattle.std.proofs.Common.{◌≡◌, ◌∙◌, pos, ◌-ℤ◌, ◌≤ℤ◌, ◌<ℤ◌, arith, rules, SFits, w64}
use Rattle.std.specs.Int.{int_min}
use Rattle.std.proofs.lemmas.Int.{ints, clamps, to_z-of_z}
use Rattle.prop_many.proofs.Intervals.{before_yes}
use Rattle.prop_many.proofs.differ.before.Goals as goal

pub returns-then-number-behind : goal.returns-then-number-behind
returns-then-number-behind c =
    let fits : SFits w64 c.min.result = search rules in
    let from : c.args.first ≤ℤ c.args.number = omega (arith, ints) in
    let to : c.args.number <ℤ c.args.behind = omega (arith, ints) in
    let is : c.min.result ≡ int_min c.args.latest (c.args.first -ℤ pos 1) =
    omega (arith, ints, clamps, c.min.ensures.value) in
    to_z-of_z w64 c.min.result fits
    ∙ before_yes c.args.first c.args.behind c.args.number c.args.latest c.min.result from to is
