use Rattle.std.proofs.Common.{◌≡◌, ◌≤◌, ◌-◌, ◌+ℤ◌, pos, true, rules, ◌∙◌, to_z, of_z}
use mir.Syntax.{w128}
use mir.Val.{SFits}
use Rattle.std.proofs.lemmas.Int.{to_z-of_z}
use Rattle.prop_many.specs.Circuit.{goes_wrong, raised}
use Rattle.prop_many.proofs.Circuits.{raised_on}
use Rattle.prop_many.proofs.circuit.+raised.Goals as goal

pub returns-then-goes_wrong : goal.returns-then-goes_wrong
returns-then-goes_wrong t c =
    let fits : SFits w128 c.raised.result = search rules in
    let next : SFits w128 (c.args.node +ℤ pos 1) = search rules in
    let some : 1 ≤ c.args.many = search rules in
    let wrong : goes_wrong c.args.successors.now c.args.home c.args.node c.args.steps ≡ true = search rules in
    let home = to_z-of_z w128 c.args.home c.ranges.home in
    let own = to_z-of_z w128 c.args.node c.ranges.node in
    let node = (λ i. to_z w128 (of_z w128 (own i +ℤ pos 1))) ∙ to_z-of_z w128 (c.args.node +ℤ pos 1) next in
    to_z-of_z w128 c.raised.result fits ∙ c.raised.ensures
    ∙ (λ i. raised c.args.successors.now (home i) (node i) c.args.steps (c.args.many - 1))
    ∙ raised_on c.args.successors.now c.args.home c.args.node c.args.steps c.args.many some wrong
