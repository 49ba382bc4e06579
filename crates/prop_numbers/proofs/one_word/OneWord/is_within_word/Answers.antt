use Rattle.std.proofs.Common.{◌≡◌, ◌≢◌, ◌∙◌, ◌%◌, arith, bit_and}
use Rattle.std.specs.Int.{bit_not, w64}
use Rattle.std.proofs.lemmas.Bool.Decides.{nat_tests}
use Rattle.prop_numbers.proofs.BitLemmas.{is_set-part, is_set-apart}
use Rattle.prop_numbers.proofs.OneLemmas.{one_in, one_at}
use Rattle.prop_numbers.proofs.one_word.OneWord.is_within_word.Goals as goal

pub returns-clause-part : goal.returns-clause-part
returns-clause-part c = λ t p h.
    let there = one_in c.args.self.place c.args.self.word p h in
    let none : bit_and c.args.self.word (bit_not w64 c.args.word) ≡ 0 = grind (arith, nat_tests) in
    (there.0, is_set-part c.args.self.word c.args.word (p % 64) (omega arith) (omega arith) none there.1)

pub returns-clause-apart : goal.returns-clause-apart
returns-clause-apart c = λ f.
    let some : bit_and c.args.self.word (bit_not w64 c.args.word) ≢ 0 = grind (arith, nat_tests) in
    let out = is_set-apart c.args.self.word c.args.word (omega arith) (omega arith) some in
    (out.0, out.1, one_at c.args.self.place c.args.self.word out.0 out.1 ∙ out.2, out.3)
