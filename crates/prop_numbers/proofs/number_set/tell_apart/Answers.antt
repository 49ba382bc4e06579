use Rattle.std.proofs.Common.{◌≡◌, ◌∙◌, ◌+◌, ◌*◌, ◌/◌, ◌%◌, sym, subst, arith, true, inl, inr}
use Rattle.std.proofs.lemmas.Bool.{cases_lt}
use Rattle.prop_numbers.specs.Sets.{set_of}
use Rattle.prop_numbers.specs.Words.{is_set}
use Rattle.prop_numbers.proofs.ApartLemmas.{alike_at, apart_at}
use Rattle.prop_numbers.proofs.number_set.tell_apart.Goals as goal

pub loop-place-init : goal.loop-place-init
loop-place-init c = λ p h l.
    let low = (c.places-first.ensures.all p h).0 in
    absurd (omega (arith, low, l))

pub loop-place-preserved : goal.loop-place-preserved
loop-place-preserved c = λ p h l. elim (cases_lt (p / 64) c.loop-place.place) [
  | inl e ↦ c.loop-place.invariant p h e
  | inr e ↦ (
      let here : p / 64 ≡ c.loop-place.place = omega (arith, l, e) in
      let at : 64 * c.loop-place.place + p % 64 ≡ p = omega (arith, here) in
      let on : is_set c.word_at-in-loop-place-2.result (p % 64) ≡ true =
      c.word_at-in-loop-place-2.ensures (p % 64) (omega arith)
      ∙ subst (λ n. set_of c.args.words.now n ≡ true) (sym at) h in
      alike_at (set_of c.args.one.now) (set_of c.args.other.now) c.loop-place.place c.word_at.result
      c.word_at-in-loop-place.result c.word_at-in-loop-place-2.result c.word_at.ensures
      c.word_at-in-loop-place.ensures c.if-word_at-ne0.false p here on)
]

pub returns-then-word_at-ne0-clause-apart : goal.returns-then-word_at-ne0-clause-apart
returns-then-word_at-ne0-clause-apart c = λ t.
    let place = c.loop-place.place in
    let out = apart_at (set_of c.args.one.now) (set_of c.args.other.now) place c.word_at.result
    c.word_at-in-loop-place.result c.word_at-in-loop-place-2.result c.word_at.ensures
    c.word_at-in-loop-place.ensures (omega (arith, c.word_at-in-loop-place-2.type_inv)) c.if-word_at-ne0.true in (
      64 * place + out.0,
      sym (c.word_at-in-loop-place-2.ensures out.0 out.1) ∙ out.2,
      out.3,
    )

pub returns-clause-alike : goal.returns-clause-alike
returns-clause-alike c = λ f p h.
    let high = (c.places-first.ensures.all p h).1 in
    c.loop-place.invariant p h (omega (arith, high, c.loop-place-test.false))
