use Rattle.std.proofs.Common.{pos}
use Rattle.prop_lattice.specs.Points.{Number}
use Rattle.prop_meaning.specs.inner.Drafts.{number_kind}
use Rattle.prop_meaning.specs.inner.Steps.{chosen}
use Rattle.prop_meaning.proofs.Growing.{both_ok, grown_trans, has_grows, then_makes}
use Rattle.prop_meaning.proofs.gathering.counted.Goals as goal

pub returns-clause-makes : goal.returns-clause-makes
returns-clause-makes g c =
    let lexicon = g.W.Words.lexicon c.args.words.now in
    let first = c.number.new.made.items in
    let second = c.number-2.new.made.items in
    let third = c.choice.new.made.items in
    let x = c.args.x in
    let one = c.in_ok-one.one in
    let zero = c.in_ok-zero.zero in
    let there = has_grows lexicon first second one number_kind c.in_ok-zero.ensures.grown.grows
    c.in_ok-one.ensures.makes.has in
    both_ok c.choice.result _ _ _ c.choice.ensures.grown (c.choice.ensures.makes number_kind there)
    (λ place grown m.
    then_makes lexicon first third number_kind number_kind (λ a. Number (pos 1))
    (λ p a. chosen (a x) p (Number (pos 0))) one place c.in_ok-one.ensures.makes
    (grown_trans lexicon first second third c.in_ok-zero.ensures.grown grown)
    (then_makes lexicon second third number_kind number_kind (λ a. Number (pos 0))
    (λ p a. chosen (a x) (a one) p) zero place c.in_ok-zero.ensures.makes grown m))
