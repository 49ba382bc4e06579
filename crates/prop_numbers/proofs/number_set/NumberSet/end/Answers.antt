use Rattle.std.proofs.Common.{◌∙◌, sym, ap, arith}
use Rattle.prop_numbers.specs.Sets.{set_of}
use Rattle.prop_numbers.specs.inner.NumberSets.{numbers_of_form}
use Rattle.prop_numbers.proofs.OneLemmas.{one_in}
use Rattle.prop_numbers.proofs.number_set.NumberSet.end.Goals as goal

pub returns-in-One-clause-all : goal.returns-in-One-clause-all
returns-in-One-clause-all c p h =
    let own = ap numbers_of_form (sym c.in-One.is) ∙ c.self.view_is in
    let there = one_in c.in-One.one.place c.in-One.one.word p (ap (λ ns. set_of ns p) own ∙ h) in
    omega (arith, there.0)
