use Rattle.std.proofs.Common.{◌≡◌, ◌⊎◌, inl, inr, subst}
use Rattle.prop_learned.specs.Stores.{IsKeptIn}
use Rattle.prop_refuting.specs.Nogoods.{Nogood}
use Rattle.prop_spread.specs.Spreads.{Spread}
use Rattle.prop_spread.proofs.Refusals.{on_ok}
use Rattle.prop_spread.proofs.spread.Spread.learn.Goals as goal

pub returns-clause-kept : goal.returns-clause-kept
returns-clause-kept c =
    on_ok c.deny.result ((x : Nogood) → IsKeptIn c.deny.new.self.nogoods x
    → IsKeptIn c.args.self.now.nogoods x ⊎ (x ≡ c.args.lesson.nogood))
    (λ x k. let P : Spread → Type 0 = λ s. IsKeptIn s.nogoods x in
    elim (c.in_ok-unit.ensures.kept x (subst P c.deny.ensures.same k)) [
      | inl a ↦ inl (c.in_ok-back.ensures.kept x a)
      | inr b ↦ inr b
    ])
