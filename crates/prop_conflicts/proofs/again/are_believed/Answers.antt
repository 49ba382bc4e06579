use Rattle.std.proofs.Common.{◌≡◌, ◌∙◌, ◌++◌, ◌∷◌, [], ap, append-nil, append_assoc, rules, subst, sym}
use Rattle.std.specs.Prelude.{List, ℕ}
use Rattle.prop_numbers.specs.Sets.{set_of, IsPart}
use Rattle.prop_premises.specs.Origins.{believed_in}
use Rattle.prop_conflicts.proofs.FitLemmas.{part_more}
use Rattle.prop_conflicts.proofs.again.are_believed.Goals as goal

pub loop-premise-preserved : goal.loop-premise-preserved
loop-premise-preserved c =
    let done = c.loop-premise.yielded in
    let whole : done ++ c.in-Some.premise ∷ c.next.new.self ≡ c.args.set.now =
    rw c.in-Some.ensures.steps at c.loop-premise.invariant.so_far in
    record {
      so_far = append_assoc done (c.in-Some.premise ∷ []) c.next.new.self ∙ whole;
      part = part_more (believed_in c.args.premises.now) done c.in-Some.premise c.loop-premise.invariant.part
          (sym c.is_in.ensures ∙ c.if-not-is_in.false);
    }

pub returns : goal.returns
returns c =
    let done = c.loop-premise.yielded in
    let end : c.loop-premise.premise-iterator ≡ [] = search rules in
    let all : done ≡ c.args.set.now = sym (append-nil done) ∙ ap (λ xs. done ++ xs) (sym end)
    ∙ c.loop-premise.invariant.so_far in
    λ t. subst (λ (l : List ℕ). IsPart (set_of l) (believed_in c.args.premises.now)) all c.loop-premise.invariant.part
