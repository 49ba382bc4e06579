use Rattle.std.proofs.Common.{◌∙◌, sym, ap, subst}
use Rattle.prop_numbers.specs.Sets.{set_of}
use Rattle.prop_numbers.specs.Signatures.{remainders, AreRemainders}
use Rattle.prop_numbers.specs.inner.NumberSets.{numbers_of_form}
use Rattle.prop_numbers.proofs.SignatureLemmas.{of_one_word}
use Rattle.prop_numbers.proofs.number_set.NumberSet.signature.Goals as goal

pub returns-in-One : goal.returns-in-One
returns-in-One c =
    let own = ap numbers_of_form (sym c.in-One.is) ∙ c.self.view_is in
    subst (λ ns. AreRemainders (set_of ns) (remainders c.with_word.result)) own
    (of_one_word c.in-One.one.place c.in-One.one.word _ (remainders c.with_word.result) c.none.ensures
    c.with_word.ensures)
