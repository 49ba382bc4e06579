use Rattle.std.proofs.Common.{◌≡◌, ◌∙◌, ◌++◌, ◌∷◌, [], ap, append-nil, append_assoc, refl, rules, subst, sym}
use Rattle.std.specs.Prelude.{List, ℕ}
use Rattle.prop_numbers.specs.Sets.{set_of}
use Rattle.prop_hitting.proofs.HittingLemmas.{AreNeeded, lean_so, needed_less, needed_more, less_part, part_trans}
use Rattle.prop_hitting.proofs.frontier.lean.Goals as goal

pub loop-premise-preserved-in-None-missed : goal.loop-premise-preserved-in-None-missed
loop-premise-preserved-in-None-missed c =
    let done = c.loop-premise.yielded in
    let whole : done ++ c.in-Some.premise ∷ c.next.new.self ≡ c.args.set.now =
    rw c.in-Some.ensures.steps at c.loop-premise.invariant.so_far in
    let less = c.in_ok-less.less in
    record {
      so_far = append_assoc done (c.in-Some.premise ∷ []) c.next.new.self ∙ whole;
      hits = c.in-None-missed.ensures.none refl;
      part = part_trans (set_of less) (set_of c.loop-premise.kept) (set_of c.args.set.now)
          (less_part (set_of less) (set_of c.loop-premise.kept) c.in-Some.premise c.in_ok-less.ensures)
          c.loop-premise.invariant.part;
      needed = needed_less c.args.conflicts.now done c.loop-premise.kept less c.in-Some.premise c.in_ok-less.ensures
          c.loop-premise.invariant.needed;
    }

pub loop-premise-preserved-in-Some-missed : goal.loop-premise-preserved-in-Some-missed
loop-premise-preserved-in-Some-missed c =
    let done = c.loop-premise.yielded in
    let whole : done ++ c.in-Some.premise ∷ c.next.new.self ≡ c.args.set.now =
    rw c.in-Some.ensures.steps at c.loop-premise.invariant.so_far in
    record {
      so_far = append_assoc done (c.in-Some.premise ∷ []) c.next.new.self ∙ whole;
      hits = c.loop-premise.invariant.hits;
      part = c.loop-premise.invariant.part;
      needed = needed_more c.args.conflicts.now done c.loop-premise.kept c.in_ok-less.less c.in-Some.premise
          c.in_ok-less.ensures c.loop-premise.invariant.needed c.in-Some-missed.field-0.now
          c.in-Some-missed.ensures.listed c.in-Some-missed.ensures.missed;
    }

pub loop-premise-preserved-in-Some-missed-2 : goal.loop-premise-preserved-in-Some-missed-2
loop-premise-preserved-in-Some-missed-2 c =
    let done = c.loop-premise.yielded in
    let whole : done ++ c.in-Some.premise ∷ c.next.new.self ≡ c.args.set.now =
    rw c.in-Some.ensures.steps at c.loop-premise.invariant.so_far in
    record {
      so_far = append_assoc done (c.in-Some.premise ∷ []) c.next.new.self ∙ whole;
      hits = c.loop-premise.invariant.hits;
      part = c.loop-premise.invariant.part;
      needed = needed_more c.args.conflicts.now done c.loop-premise.kept c.in_ok-less.less c.in-Some.premise
          c.in_ok-less.ensures c.loop-premise.invariant.needed c.in-Some-missed.field-0.now
          c.in-Some-missed.ensures.listed c.in-Some-missed.ensures.missed;
    }

pub loop-premise-preserved : goal.loop-premise-preserved
loop-premise-preserved c =
    let done = c.loop-premise.yielded in
    let whole : done ++ c.in-Some.premise ∷ c.next.new.self ≡ c.args.set.now =
    rw c.in-Some.ensures.steps at c.loop-premise.invariant.so_far in
    record {
      so_far = append_assoc done (c.in-Some.premise ∷ []) c.next.new.self ∙ whole;
      hits = c.loop-premise.invariant.hits;
      part = c.loop-premise.invariant.part;
      needed = needed_more c.args.conflicts.now done c.loop-premise.kept c.in_ok-less.less c.in-Some.premise
          c.in_ok-less.ensures c.loop-premise.invariant.needed c.in-Some-missed.field-0.now
          c.in-Some-missed.ensures.listed c.in-Some-missed.ensures.missed;
    }

pub returns-clause-lean : goal.returns-clause-lean
returns-clause-lean c =
    let done = c.loop-premise.yielded in
    let end : c.loop-premise.premise-iterator ≡ [] = search rules in
    let all : done ≡ c.args.set.now = sym (append-nil done) ∙ ap (λ xs. done ++ xs) (sym end)
    ∙ c.loop-premise.invariant.so_far in
    lean_so c.args.conflicts.now c.loop-premise.kept c.args.set.now c.loop-premise.invariant.part
    (subst (λ (l : List ℕ). AreNeeded c.args.conflicts.now l c.loop-premise.kept) all c.loop-premise.invariant.needed)
