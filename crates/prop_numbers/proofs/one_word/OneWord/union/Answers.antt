use Rattle.std.proofs.Common.{◌≡◌, ◌∙◌, ◌||◌, ◌*◌, ◌∷◌, [], ap, arith}
use Rattle.prop_numbers.specs.Sets.{set_of}
use Rattle.prop_numbers.specs.Words.{numbers_from}
use Rattle.prop_numbers.proofs.OneLemmas.{one_union}
use Rattle.prop_numbers.proofs.one_word.OneWord.union.Goals as goal

pub returns-clause-has : goal.returns-clause-has
returns-clause-has c p =
    let own = c.args.self in
    let others = c.args.other in
    let same : own.place ≡ others.place = omega (arith, c.if-self-other.false) in
    one_union own.place own.word others.word p
    ∙ ap (λ m. set_of (numbers_from (64 * own.place) (own.word ∷ [])) p || set_of
    (numbers_from (64 * m) (others.word ∷ [])) p) same
