use Rattle.std.proofs.Common.{subst}
use Rattle.prop_learned.specs.Stores.{IsKeptIn}
use Rattle.prop_refuting.specs.Nogoods.{Nogood}
use Rattle.prop_spread.specs.Spreads.{Spread}
use Rattle.prop_spread.proofs.Refusals.{on_ok}
use Rattle.prop_spread.proofs.spread.Spread.restart.Goals as goal

pub returns-clause-kept : goal.returns-clause-kept
returns-clause-kept c =
    on_ok c.forget.result ((g : Nogood) → IsKeptIn c.forget.new.self g → IsKeptIn c.args.self.now.nogoods g)
    (λ g k. let P : Spread → Type 0 = λ s. IsKeptIn s.nogoods g in
    c.in_ok-back.ensures.kept g (subst P c.self.view_is (c.forget.ensures.kept g k)))
