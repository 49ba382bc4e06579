use Rattle.std.proofs.Common.{◌≡◌, ◌≢◌, ◌∙◌, ◌/◌, false, sym, arith, nat_eq}
use Rattle.std.proofs.lemmas.Bool.Decides.{nat_tests}
use Rattle.prop_numbers.proofs.BitLemmas.{tested}
use Rattle.prop_numbers.proofs.OneLemmas.{one_here, one_out}
use Rattle.prop_numbers.proofs.one_word.OneWord.has.Goals as goal

pub returns-then-place_of-self : goal.returns-then-place_of-self
returns-then-place_of-self c =
    let here : c.args.number / 64 ≡ c.args.self.place = omega (arith, c.place_of.ensures, c.if-place_of-self.true) in
    rw c.bit_of.ensures (tested c.args.self.word _
    ∙ sym (one_here c.args.self.place c.args.self.word c.args.number here))

pub returns-else-place_of-self : goal.returns-else-place_of-self
returns-else-place_of-self c =
    let other : c.args.number / 64 ≢ c.args.self.place =
    (λ here. c.if-place_of-self.false (c.place_of.ensures ∙ here)) in
    let apart : c.place_of.result ≢ c.args.self.place = c.if-place_of-self.false in
    let no : nat_eq c.place_of.result c.args.self.place ≡ false = grind (arith, nat_tests) in
    no ∙ sym (one_out c.args.self.place c.args.self.word c.args.number other)
