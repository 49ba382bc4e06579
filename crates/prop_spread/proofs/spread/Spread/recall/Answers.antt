use Rattle.std.proofs.Common.{inl, inr, subst}
use Rattle.prop_learned.specs.Stores.{IsKeptIn}
use Rattle.prop_spread.specs.Spreads.{Spread}
use Rattle.prop_spread.proofs.spread.Spread.recall.Goals as goal

pub returns-in_ok-push-clause-kept : goal.returns-in_ok-push-clause-kept
returns-in_ok-push-clause-kept c = λ g k. let P : Spread → Type 0 = λ s. IsKeptIn s.nogoods g in
    elim (c.in_ok-number.ensures.from g k) [ inl a ↦ inr a | inr b ↦ inl (subst P c.self.view_is b) ]

pub returns-else-is_none-2-clause-kept : goal.returns-else-is_none-2-clause-kept
returns-else-is_none-2-clause-kept c = λ g k. let P : Spread → Type 0 = λ s. IsKeptIn s.nogoods g in
    elim (c.in_ok-number.ensures.from g k) [ inl a ↦ inr a | inr b ↦ inl (subst P c.self.view_is b) ]
