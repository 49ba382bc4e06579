use Rattle.std.proofs.Common.{◌≡◌, ◌∙◌, ◌++◌, ◌∷◌, [], ap, append-nil, append_assoc, rules, subst, sym}
use Rattle.std.specs.Prelude.{List, ℕ}
use Rattle.prop_hitting.proofs.NodeLemmas.{Splits, splits_all, splits_lacked, splits_more}
use Rattle.prop_hitting.proofs.frontier.Frontier.split.Goals as goal

pub loop-premise-preserved : goal.loop-premise-preserved
loop-premise-preserved c =
    let done = c.loop-premise.yielded in
    let whole : done ++ c.in-Some.premise ∷ c.next.new.self ≡ c.args.conflict.now =
    rw c.in-Some.ensures.steps at c.loop-premise.invariant.so_far in
    record {
      so_far = append_assoc done (c.in-Some.premise ∷ []) c.next.new.self ∙ whole;
      splits = splits_lacked c.args.node c.loop-premise.rest done c.in-Some.premise c.args.self.now.nodes.items
          c.loop-premise.self.nodes.items c.loop-premise.invariant.splits (c.lacks.ensures c.if-not-lacks.false);
    }

pub loop-premise-preserved-then-not-lacks : goal.loop-premise-preserved-then-not-lacks
loop-premise-preserved-then-not-lacks c =
    let done = c.loop-premise.yielded in
    let whole : done ++ c.in-Some.premise ∷ c.next.new.self ≡ c.args.conflict.now =
    rw c.in-Some.ensures.steps at c.loop-premise.invariant.so_far in
    record {
      so_far = append_assoc done (c.in-Some.premise ∷ []) c.next.new.self ∙ whole;
      splits = splits_more c.args.node c.loop-premise.rest done c.in-Some.premise c.args.self.now.nodes.items
          c.loop-premise.self.nodes.items c.loop-premise.invariant.splits c.in_ok-having.field-0 c.in_ok-rest.rest _
          c.in_ok-push.ensures.items c.in_ok-having.ensures c.in_ok-rest.ensures.those
          c.in_ok-rest.ensures.only c.in_ok-rest.ensures.lack;
    }

pub returns-clause-split : goal.returns-clause-split
returns-clause-split c =
    let done = c.loop-premise.yielded in
    let end : c.loop-premise.premise-iterator ≡ [] = search rules in
    let all : done ≡ c.args.conflict.now = sym (append-nil done) ∙ ap (λ xs. done ++ xs) (sym end)
    ∙ c.loop-premise.invariant.so_far in
    splits_all c.args.node c.loop-premise.rest c.args.conflict.now c.args.self.now.nodes.items
    c.loop-premise.self.nodes.items
    (subst (λ (l : List ℕ). Splits c.args.node c.loop-premise.rest l c.args.self.now.nodes.items
    c.loop-premise.self.nodes.items) all c.loop-premise.invariant.splits)
