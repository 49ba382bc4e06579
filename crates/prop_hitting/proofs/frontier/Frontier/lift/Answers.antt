use Rattle.std.proofs.Common.{◌∙◌, ◌++◌, ◌∷◌, [], List, ap, arith, inl, inr, rules, subst, sym}
use Rattle.prop_hitting.specs.declared.node.Node.{Node}
use Rattle.prop_hitting.specs.inner.Nodes.{IsOneOf}
use Rattle.prop_hitting.proofs.CostLemmas.{one_moved}
use Rattle.prop_hitting.proofs.frontier.Frontier.lift.Goals as goal

pub returns : goal.returns
returns c = λ conflicts repairs sought h hits.
    let node = c.remove-node.result in
    let behind : List Node → List Node = λ nodes. nodes ++ node ∷ [] in
    elim (sought h hits) [
      | inl has ↦ inl has
      | inr there ↦
          inr (subst (IsOneOf h) (sym (c.in_ok-push.ensures.items ∙ ap behind c.remove-node.ensures.items))
          (one_moved h c.args.self.now.nodes.items c.cheapest-place.result node (omega (arith, c.if-place-len.false))
          (search rules) there))
    ]
