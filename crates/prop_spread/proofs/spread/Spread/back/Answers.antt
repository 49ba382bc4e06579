use Rattle.std.proofs.Common.{subst}
use Rattle.prop_learned.specs.Stores.{IsKeptIn}
use Rattle.prop_spread.specs.Spreads.{Spread}
use Rattle.prop_spread.proofs.spread.Spread.back.Goals as goal

pub returns-clause-kept : goal.returns-clause-kept
returns-clause-kept c = λ g k. let P : Spread → Type 0 = λ s. IsKeptIn s.nogoods g in
    subst P c.self.view_is (c.in_ok-back.ensures.kept g k)
