use Rattle.std.proofs.Common.{ℕ}
use Rattle.prop_lattice.specs.Points.{Point}
use Rattle.prop_meaning.specs.declared.steps.Pair.TheVariants.{And, Less}
use Rattle.prop_meaning.specs.declared.steps.Single.TheVariants.{Not}
use Rattle.prop_meaning.specs.inner.Drafts.{truth_kind}
use Rattle.prop_meaning.specs.inner.Steps.{of_one, of_two}
use Rattle.prop_meaning.proofs.Growing.{both_ok, grown_trans, on_ok, then_makes}
use Rattle.prop_meaning.proofs.combining.between.Goals as goal

pub returns-clause-makes : goal.returns-clause-makes
returns-clause-makes g c = both_ok c.two.result _ _ _ c.two.ensures.grown c.two.ensures.makes
    (λ place grown m.
    let lexicon = g.W.Words.lexicon c.args.words.now in
    let first = c.opposite.new.made.items in
    let second = c.opposite-2.new.made.items in
    let third = c.two.new.made.items in
    let above : (ℕ → Point) → Point = λ a. of_one Not (of_two Less (a c.args.x) (a c.args.from)) in
    let below : (ℕ → Point) → Point = λ a. of_one Not (of_two Less (a c.args.end) (a c.args.x)) in
    then_makes lexicon second third truth_kind truth_kind below (λ p a. of_two And (above a) p)
    c.in_ok-below.below place
    c.in_ok-below.ensures.makes grown
    (then_makes lexicon first third truth_kind truth_kind above (λ p a. of_two And p (a c.in_ok-below.below))
    c.in_ok-above.above place c.in_ok-above.ensures.makes
    (grown_trans lexicon first second third c.in_ok-below.ensures.grown grown) m))

pub returns-clause-grown : goal.returns-clause-grown
returns-clause-grown g c =
    let lexicon = g.W.Words.lexicon c.args.words.now in
    let first = c.opposite.new.made.items in
    let second = c.opposite-2.new.made.items in
    let third = c.two.new.made.items in
    on_ok c.two.result _ _ c.two.ensures.grown (λ grown.
    grown_trans lexicon c.args.made.now.items first third c.in_ok-above.ensures.grown
    (grown_trans lexicon first second third c.in_ok-below.ensures.grown grown))
