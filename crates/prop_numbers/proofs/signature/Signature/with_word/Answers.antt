use Rattle.std.proofs.Common.{◌≡◌, ◌%◌, arith}
use Rattle.std.proofs.lemmas.Bool.Decides.{nat_tests}
use Rattle.prop_numbers.proofs.SignatureLemmas.{with_first, with_second}
use Rattle.prop_numbers.proofs.signature.Signature.with_word.Goals as goal

pub returns-then-place-eq0 : goal.returns-then-place-eq0
returns-then-place-eq0 c i =
    let even : c.args.place % 2 ≡ 0 = grind (arith, nat_tests) in
    with_first c.args.self.even c.args.self.odd c.args.word (c.args.place % 2) i even

pub returns-else-place-eq0 : goal.returns-else-place-eq0
returns-else-place-eq0 c i =
    let odd : c.args.place % 2 ≡ 1 = grind (arith, nat_tests) in
    with_second c.args.self.even c.args.self.odd c.args.word (c.args.place % 2) i odd
