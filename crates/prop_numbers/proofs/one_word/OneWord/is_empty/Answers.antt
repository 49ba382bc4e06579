use Rattle.std.proofs.Common.{◌≡◌, ap, arith, refl, nat_eq}
use Rattle.std.proofs.lemmas.Bool.Decides.{nat_tests}
use Rattle.prop_numbers.proofs.OneLemmas.{one_none}
use Rattle.prop_numbers.proofs.WordLemmas.{numbers_from-none}
use Rattle.prop_numbers.proofs.one_word.OneWord.is_empty.Goals as goal

pub returns : goal.returns
returns c = (
  λ h. let zero : c.args.self.word ≡ 0 = grind (arith, nat_tests) in numbers_from-none _ c.args.self.word _ zero refl,
  λ none. let zero = one_none c.args.self.place c.args.self.word (omega arith) none in ap (λ w. nat_eq w 0) zero,
)
