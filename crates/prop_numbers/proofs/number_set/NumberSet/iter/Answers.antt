use Rattle.std.proofs.Common.{◌≤◌, ◌∙◌, ◌*◌, ◌∷◌, [], sym, ap, arith, subst, length}
use Rattle.std.specs.List.Sorted.{IsStrictlyIncreasing}
use Rattle.prop_numbers.specs.inner.NumberSets.{numbers_of_form}
use Rattle.prop_numbers.proofs.WordLemmas.{increasing-numbers_from, few_numbers}
use Rattle.prop_numbers.proofs.number_set.NumberSet.iter.Goals as goal

pub returns-in-One-clause-ordered : goal.returns-in-One-clause-ordered
returns-in-One-clause-ordered c = subst IsStrictlyIncreasing (ap numbers_of_form (sym c.in-One.is) ∙ c.self.view_is)
    (increasing-numbers_from _ _)

pub returns-in-One-clause-few : goal.returns-in-One-clause-few
returns-in-One-clause-few c =
    let one = c.in-One.one in
    subst (λ ns. length ns ≤ 65_536) (ap numbers_of_form (sym c.in-One.is) ∙ c.self.view_is)
    (few_numbers (64 * one.place) (one.word ∷ []) (omega arith))
