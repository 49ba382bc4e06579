use Rattle.std.proofs.Common.{◌≡◌, ◌≢◌, ◌∙◌, ◌+◌, ◌*◌, sym, ap, arith, bit_and, bit_xor}
use Rattle.std.proofs.lemmas.Bool.Decides.{nat_tests}
use Rattle.prop_numbers.specs.Sets.{set_of}
use Rattle.prop_numbers.specs.inner.NumberSets.{numbers_of_form}
use Rattle.prop_numbers.proofs.ApartLemmas.{alike_at, apart_at}
use Rattle.prop_numbers.proofs.OneLemmas.{one_in, one_at}
use Rattle.prop_numbers.proofs.number_set.NumberSet.tells_apart.Goals as goal

pub returns-in-One-clause-apart : goal.returns-in-One-clause-apart
returns-in-One-clause-apart c = λ t.
    let own = ap numbers_of_form (sym c.in-One.is) ∙ c.self.view_is in
    let place = c.in-One.own.place in
    let some : bit_and (bit_xor c.word_at.result c.word_at-in-One.result) c.in-One.own.word ≢ 0 =
    grind (arith, nat_tests) in
    let out = apart_at (set_of c.args.one.now) (set_of c.args.other.now) place c.word_at.result c.word_at-in-One.result
    c.in-One.own.word c.word_at.ensures c.word_at-in-One.ensures (omega arith) some in (
      64 * place + out.0,
      ap (λ ns. set_of ns (64 * place + out.0)) (sym own) ∙ one_at place c.in-One.own.word out.0 out.1 ∙ out.2,
      out.3,
    )

pub returns-in-One-clause-alike : goal.returns-in-One-clause-alike
returns-in-One-clause-alike c = λ f p h.
    let own = ap numbers_of_form (sym c.in-One.is) ∙ c.self.view_is in
    let none : bit_and (bit_xor c.word_at.result c.word_at-in-One.result) c.in-One.own.word ≡ 0 =
    grind (arith, nat_tests) in
    let there = one_in c.in-One.own.place c.in-One.own.word p (ap (λ ns. set_of ns p) own ∙ h) in
    alike_at (set_of c.args.one.now) (set_of c.args.other.now) c.in-One.own.place c.word_at.result
    c.word_at-in-One.result c.in-One.own.word c.word_at.ensures c.word_at-in-One.ensures none p there.0 there.1
