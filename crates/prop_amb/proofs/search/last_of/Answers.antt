use Rattle.std.proofs.Common.{rules, ◌≡◌, ◌∙◌, ◌++◌, ◌∷◌, [], inl, inr, sym, ap, append-nil, append_assoc}
use Rattle.prop_nogoods.proofs.EndingLemmas.{has_middle}
use Rattle.prop_amb.proofs.search.last_of.Goals as goal

pub loop-premise-preserved : goal.loop-premise-preserved
loop-premise-preserved c =
    let done = c.loop-premise.yielded in
    let whole : done ++ c.in-Some.premise ∷ c.next.new.self ≡ c.args.set.now =
    rw c.in-Some.ensures.steps at c.loop-premise.invariant.so_far in
    record {
      so_far = append_assoc done (c.in-Some.premise ∷ []) c.next.new.self ∙ whole;
      last = inl (rw (← whole) (has_middle done c.next.new.self c.in-Some.premise));
    }

pub returns : goal.returns
returns c =
    let done = c.loop-premise.yielded in
    let end : c.loop-premise.premise-iterator ≡ [] = search rules in
    let all : done ≡ c.args.set.now = sym (append-nil done) ∙ ap (λ xs. done ++ xs) (sym end)
    ∙ c.loop-premise.invariant.so_far in
    elim c.loop-premise.invariant.last [
      | inl t ↦ inl t
      | inr e ↦ inr (sym all ∙ e)
    ]
