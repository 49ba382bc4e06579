use Rattle.std.proofs.Common.{◌≡◌, ◌≢◌, ◌∙◌, ◌/◌, arith}
use Rattle.prop_numbers.proofs.OneLemmas.{one_without, one_not_there}
use Rattle.prop_numbers.proofs.one_word.OneWord.without.Goals as goal

pub returns-then-place_of-self-clause-has : goal.returns-then-place_of-self-clause-has
returns-then-place_of-self-clause-has c p =
    let other : c.args.number / 64 ≢ c.args.self.place =
    (λ here. c.if-place_of-self.true (c.place_of.ensures ∙ here)) in
    one_not_there c.args.self.place c.args.self.word c.args.number p other

pub returns-clause-has : goal.returns-clause-has
returns-clause-has c p =
    let here : c.args.number / 64 ≡ c.args.self.place = omega (arith, c.place_of.ensures, c.if-place_of-self.false) in
    rw c.bit_of.ensures (one_without c.args.self.place c.args.self.word c.args.number p here)
