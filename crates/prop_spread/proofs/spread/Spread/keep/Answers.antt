use Rattle.std.proofs.Common.{inl, inr, subst}
use Rattle.prop_learned.specs.Stores.{IsKeptIn}
use Rattle.prop_spread.specs.Spreads.{Spread}
use Rattle.prop_spread.proofs.spread.Spread.keep.Goals as goal

pub returns-in_ok-push-clause-kept : goal.returns-in_ok-push-clause-kept
returns-in_ok-push-clause-kept c = λ g k. let P : Spread → Type 0 = λ s. IsKeptIn s.nogoods g in
    elim (c.put.ensures g k) [ inl a ↦ inr a | inr b ↦ inl (subst P c.self.view_is b) ]

pub returns-else-is_alone-clause-kept : goal.returns-else-is_alone-clause-kept
returns-else-is_alone-clause-kept c = λ g k. let P : Spread → Type 0 = λ s. IsKeptIn s.nogoods g in
    elim (c.put.ensures g k) [ inl a ↦ inr a | inr b ↦ inl (subst P c.self.view_is b) ]
