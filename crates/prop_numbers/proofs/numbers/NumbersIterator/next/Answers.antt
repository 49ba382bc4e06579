use Rattle.std.proofs.Common.{◌+◌, ◌∙◌, ◌∷◌, rules, refl, sym, ap, arith, length}
use Rattle.prop_numbers.specs.Words.{numbers_from}
use Rattle.prop_numbers.proofs.WordLemmas.{numbers_from-none, numbers_from-skip, numbers_from-first}
use Rattle.prop_numbers.proofs.numbers.NumbersIterator.next.Goals as goal

pub returns-in_err-first-clause-steps : goal.returns-in_err-first-clause-steps
returns-in_err-first-clause-steps c =
    let left = c.loop-self.self-inside in
    let none = numbers_from-none left.base left.word left.rest.now c.loop-self-test.true c.in_err-first.ensures.cases in
    rw c.from_residual.ensures (sym c.loop-self.invariant.same ∙ none, none)

pub loop-self-preserved : goal.loop-self-preserved
loop-self-preserved c =
    let left = c.loop-self.self-inside in
    let words = c.in_ok-first.ensures.cases.0 in
    record {
      same = sym (numbers_from-skip left.base (left.base + 64) (c.in_ok-first.first.now ∷ c.in_ok-first.rest.now) refl)
          ∙ ap (λ w. numbers_from left.base (w ∷ c.in_ok-first.first.now ∷ c.in_ok-first.rest.now))
          (sym c.loop-self-test.true)
          ∙ ap (λ ws. numbers_from left.base (left.word ∷ ws)) (sym words) ∙ c.loop-self.invariant.same;
      room = omega (arith, c.loop-self.invariant.room, ap length words);
    }

pub returns-clause-steps : goal.returns-clause-steps
returns-clause-steps c =
    let left = c.loop-self.self-inside in
    sym c.loop-self.invariant.same ∙ numbers_from-first left.base left.word _ left.rest.now refl c.loop-self-test.false
    (omega arith)

pub returns-clause-goes : goal.returns-clause-goes
returns-clause-goes c =
    let left = c.loop-self.self-inside in
    rw (sym c.loop-self.invariant.same ∙ numbers_from-first left.base left.word _ left.rest.now refl
    c.loop-self-test.false (omega arith)) (search rules)
