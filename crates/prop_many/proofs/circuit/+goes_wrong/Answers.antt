use Rattle.std.proofs.Common.{◌≡◌, ◌≤◌, ◌-◌, true, false, arith, rules, ◌∙◌, pos, to_z, of_z}
use mir.Syntax.{w128}
use Rattle.std.specs.Ordering.{int_eq}
use Rattle.std.specs.Prelude.{Some}
use Rattle.std.proofs.lemmas.Int.{ints, to_z-of_z}
use Rattle.prop_many.specs.Circuit.{entry_at, goes_wrong, is_one}
use Rattle.prop_many.proofs.Circuits.{goes_on_is}
use Rattle.prop_many.proofs.circuit.+goes_wrong.Goals as goal
use Rattle.prop_wide.specs.Ends.{low_of}

pub returns-then-is_one : goal.returns-then-is_one
returns-then-is_one t c =
    let some : 1 ≤ c.args.steps = search rules in
    let away : int_eq c.args.node c.args.home ≡ false = search rules in
    let found : entry_at (pos 1) c.args.successors.now c.args.node ≡ Some c.in-Some.next = search rules in
    let one : is_one c.in-Some.next ≡ true = search rules in
    let home = to_z-of_z w128 c.args.home c.ranges.home in
    let next : to_z w128 (of_z w128 c.from.result) ≡ low_of c.in-Some.next = omega (arith, ints) in
    goes_on_is c.args.successors.now c.args.home c.args.node c.args.steps c.in-Some.next c.goes_wrong.result some away
    found one (c.goes_wrong.ensures ∙ (λ i. goes_wrong c.args.successors.now (home i) (next i) (c.args.steps - 1)))
