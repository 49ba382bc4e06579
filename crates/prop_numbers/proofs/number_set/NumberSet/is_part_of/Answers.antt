use Rattle.std.proofs.Common.{◌≡◌, ◌∙◌, ◌+◌, ◌*◌, ◌%◌, true, sym, ap, arith, subst}
use Rattle.prop_numbers.specs.Sets.{set_of}
use Rattle.prop_numbers.specs.inner.NumberSets.{numbers_of_form}
use Rattle.prop_numbers.proofs.WithinLemmas.{is_within-told}
use Rattle.prop_numbers.proofs.number_set.NumberSet.is_part_of.Goals as goal

pub returns-in-One : goal.returns-in-One
returns-in-One c =
    let place = c.in-One.one.place in
    let own = ap numbers_of_form (sym c.in-One.is) ∙ c.self.view_is in
    is_within-told (set_of c.args.other.now) c.args.self.now c.is_within_word.result
    (λ t p h. (
    let there = c.is_within_word.ensures.part t p (ap (λ ns. set_of ns p) own ∙ h) in
    let at : 64 * place + p % 64 ≡ p = omega (arith, there.0) in
    subst (λ n. set_of c.args.other.now n ≡ true) at (sym (c.word_at.ensures (p % 64) (omega arith)) ∙ there.1)))
    (λ f. (
    let out = c.is_within_word.ensures.apart f in (
      64 * place + out.0,
      ap (λ ns. set_of ns (64 * place + out.0)) (sym own)
          ∙ out.2,
      sym (c.word_at.ensures out.0 out.1) ∙ out.3,
    )))
