use Rattle.std.proofs.Common.{◌≤◌, arith, length, inl, inr, rules, subst, sym}
use Rattle.std.proofs.lemmas.List.{take_all}
use Rattle.prop_numbers.specs.Sets.{set_of}
use Rattle.prop_hitting.specs.Costs.{cost, weight}
use Rattle.prop_hitting.specs.inner.Nodes.{IsOneOf}
use Rattle.prop_hitting.proofs.CostLemmas.{cost_part, one_taken}
use Rattle.prop_hitting.proofs.frontier.Frontier.floor.Goals as goal

pub loop-node-preserved : goal.loop-node-preserved
loop-node-preserved c = λ out up there.
    let nodes = c.args.self.now.nodes.items in
    let node = c.node-item.result in
    elim (one_taken (set_of out) nodes c.loop-node.node-index node (omega (arith, c.loop-node-test.true)) (search rules)
    there) [
      | inl before ↦ let least = c.loop-node.invariant out up before in omega (arith, least, c.min-least.ensures)
      | inr here ↦
          let part = cost_part (weight c.args.weights.now) node.hit out c.cost.ensures.ordered up here.has in
          omega (arith, part, c.cost.ensures.sum, c.min-least.ensures)
    ]

pub returns : goal.returns
returns c = λ conflicts repairs sought out up hits less.
    let nodes = c.args.self.now.nodes.items in
    let n = c.loop-node.node-index in
    let whole : length nodes ≤ n = omega (arith, c.loop-node-test.false) in
    elim (sought (set_of out) hits) [
      | inl has ↦ has
      | inr there ↦
          let least = c.loop-node.invariant out up
          (subst (IsOneOf (set_of out)) (sym (take_all n nodes whole)) there) in
          absurd (omega (arith, less, least))
    ]
