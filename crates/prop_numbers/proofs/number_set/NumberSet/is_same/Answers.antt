use Rattle.std.proofs.Common.{◌∙◌, sym, ap}
use Rattle.prop_numbers.specs.inner.NumberSets.{numbers_of_form}
use Rattle.prop_numbers.proofs.ChangeLemmas.{alike}
use Rattle.prop_numbers.proofs.number_set.NumberSet.is_same.Goals as goal

pub returns-in-Many-Many : goal.returns-in-Many-Many
returns-in-Many-Many c =
    let own = ap numbers_of_form (sym c.in-Many-Many.is-0) ∙ c.self.view_is in
    let words = ap numbers_of_form (sym c.in-Many-Many.is-1) ∙ c.other.view_is in
    alike c.args.self.now c.args.other.now
    (sym own ∙ c.stand_alike.ensures c.if-stand_alike.true ∙ words)
