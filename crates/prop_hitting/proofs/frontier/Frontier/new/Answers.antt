use Rattle.std.proofs.Common.{◌∙◌, ◌++◌, ◌∷◌, [], List, ap, inl, inr, subst, sym}
use Rattle.prop_hitting.specs.declared.node.Node.{Node}
use Rattle.prop_hitting.specs.inner.Nodes.{IsOneOf}
use Rattle.prop_hitting.proofs.frontier.Frontier.new.Goals as goal

pub returns : goal.returns
returns c = λ conflicts repairs h hits.
    let all : List Node → List Node = λ nodes. nodes ++ c.all.result ∷ [] in
    inr (subst (IsOneOf h) (sym (c.in_ok-push.ensures.items ∙ ap all c.new-nodes.ensures.items))
    (inl (c.all.ensures h)))
