use Rattle.std.proofs.Common.{rules, ◌≡◌, ◌∙◌, ◌∷◌, ◌++◌, ◌&&◌, ℕ, [], ap, sym, append_assoc, append-nil}
use Rattle.std.proofs.lemmas.Result.{IfOk-weaker}
use Rattle.prop_numbers.specs.Sets.{set_of}
use Rattle.prop_nogoods.proofs.CommonLemmas.{is_shared, shared_none, shared_all, shared_held}
use Rattle.prop_nogoods.proofs.listed.Listed.shared.Goals as goal

pub loop-premise-init : goal.loop-premise-init
loop-premise-init c = record {
  so_far = c.into_iter-premise-iterator.ensures.into_iter_gives ∙ c.iter-premise-items.ensures.all ∙ c.premises-2.ensures;
  shared = λ p. ap (λ s. set_of s p) (c.in_ok-shared.ensures ∙ c.premises.ensures)
      ∙ shared_none c.args.self.now c.args.other.now p;
}

-- one that the other has
pub loop-premise-preserved : goal.loop-premise-preserved
loop-premise-preserved c = record {
  so_far = append_assoc c.loop-premise.yielded (c.in-Some.premise ∷ []) c.next.new.self
      ∙ (rw c.in-Some.ensures.steps at c.loop-premise.invariant.so_far);
  shared = shared_held c.args.self.now c.args.other.now c.loop-premise.yielded c.loop-premise.shared c.in-Some.premise
      c.loop-premise.invariant.shared
      (sym c.holds.ensures ∙ c.if-not-holds.false);
}

pub returns : goal.returns
returns c =
    let a = c.args.self.now in
    let b = c.args.other.now in
    let done = c.loop-premise.yielded in
    let end : c.loop-premise.premise-iterator ≡ [] = search rules in
    let all : done ≡ a = sym (append-nil done) ∙ ap (λ xs. done ++ xs) (sym end) ∙ c.loop-premise.invariant.so_far in
    IfOk-weaker c.new.result (λ l. l ≡ c.loop-premise.shared) (λ l. (p : ℕ) → set_of l p ≡ (set_of a p && set_of b p))
    (λ l same p. ap (λ s. set_of s p) same ∙ c.loop-premise.invariant.shared p ∙ ap (λ xs. is_shared a b xs p) all
    ∙ shared_all a b p)
    c.new.ensures
