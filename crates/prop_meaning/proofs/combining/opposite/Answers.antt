use Rattle.prop_meaning.specs.declared.steps.Single.TheVariants.{Not}
use Rattle.prop_meaning.specs.inner.Drafts.{kind_between, truth_kind}
use Rattle.prop_meaning.specs.inner.Steps.{of_one, of_two}
use Rattle.prop_meaning.proofs.Growing.{both_ok, then_makes}
use Rattle.prop_meaning.proofs.combining.opposite.Goals as goal

pub returns-clause-makes : goal.returns-clause-makes
returns-clause-makes g c = both_ok c.one.result _ _ _ c.one.ensures.grown c.one.ensures.makes
    (λ place grown m. then_makes (g.W.Words.lexicon c.args.words.now)
    c.two.new.made.items c.one.new.made.items (kind_between c.args.op) truth_kind
    (λ a. of_two c.args.op (a c.args.x) (a c.args.y)) (λ p a. of_one Not p) c.in_ok-z.z place c.in_ok-z.ensures.makes
    grown m)
