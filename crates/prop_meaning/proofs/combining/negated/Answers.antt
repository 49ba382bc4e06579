use Rattle.std.proofs.Common.{pos}
use Rattle.prop_lattice.specs.Points.{Number}
use Rattle.prop_meaning.specs.declared.steps.Pair.TheVariants.{Difference}
use Rattle.prop_meaning.specs.inner.Drafts.{number_kind}
use Rattle.prop_meaning.specs.inner.Steps.{of_two}
use Rattle.prop_meaning.proofs.Growing.{both_ok, then_makes}
use Rattle.prop_meaning.proofs.combining.negated.Goals as goal

pub returns-clause-makes : goal.returns-clause-makes
returns-clause-makes g c = both_ok c.two.result _ _ _ c.two.ensures.grown c.two.ensures.makes
    (λ place grown m. then_makes (g.W.Words.lexicon c.args.words.now) c.number.new.made.items
    c.two.new.made.items number_kind number_kind
    (λ a. Number (pos 0)) (λ p a. of_two Difference p (a c.args.x)) c.in_ok-zero.zero place c.in_ok-zero.ensures.makes
    grown m)
