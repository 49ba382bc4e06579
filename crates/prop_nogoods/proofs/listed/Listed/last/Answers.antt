use Rattle.std.proofs.Common.{◌≡◌, ◌∙◌, ◌∷◌, ◌++◌, [], append_assoc}
use Rattle.prop_nogoods.proofs.EndingLemmas.{passed_below, has_middle}
use Rattle.prop_nogoods.proofs.listed.Listed.last.Goals as goal

pub loop-premise-preserved : goal.loop-premise-preserved
loop-premise-preserved c =
    let done = c.loop-premise.yielded in
    let kept = c.loop-premise.invariant in
    let whole : done ++ c.in-Some.premise ∷ c.next.new.self ≡ c.args.self.now =
    rw c.in-Some.ensures.steps at kept.so_far in
    let so_far : (done ++ c.in-Some.premise ∷ []) ++ c.next.new.self ≡ c.args.self.now =
    append_assoc done (c.in-Some.premise ∷ []) c.next.new.self ∙ whole in
    let ordered = rw c.premises.ensures at c.iter-premise-items.ensures.ordered in
    record {
      so_far = so_far;
      last = rw (← whole) (has_middle done c.next.new.self c.in-Some.premise);
      below = passed_below c.args.self.now done c.next.new.self c.in-Some.premise ordered so_far;
    }
