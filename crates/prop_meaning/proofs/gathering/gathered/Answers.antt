use Rattle.std.proofs.Common.{sym, subst}
use Rattle.prop_procedures.specs.declared.shape.Kinded.{Kinded}
use Rattle.prop_meaning.specs.declared.steps.Pair.{Pair}
use Rattle.prop_meaning.specs.inner.Drafts.{Makes, TakesTwo, kind_between, number_kind}
use Rattle.prop_meaning.specs.inner.Lists.{pair_of, alone}
use Rattle.prop_meaning.specs.inner.Steps.{of_two}
use Rattle.prop_meaning.proofs.Growing.{both_ok, has_grows, then_makes}
use Rattle.prop_meaning.proofs.Lists.{pair_takes, pair_between}
use Rattle.prop_meaning.proofs.gathering.gathered.Goals as goal

pub two-requires-clause-suits : goal.two-requires-clause-suits
two-requires-clause-suits g c =
    let lexicon = g.W.Words.lexicon c.args.words.now in
    let first = c.alone.new.made.items in (
      number_kind,
      subst (λ o. TakesTwo o number_kind) (sym c.pair_of.ensures) (pair_takes c.args.op),
      has_grows lexicon c.args.made.now.items first c.args.x number_kind c.in_ok-z.ensures.grown.grows
          c.requires.before,
      c.in_ok-z.ensures.makes.has,
    )

pub returns-clause-makes : goal.returns-clause-makes
returns-clause-makes g c = both_ok c.two.result _ _ _ c.two.ensures.grown c.two.ensures.makes
    (λ place grown m.
    let lexicon = g.W.Words.lexicon c.args.words.now in
    let first = c.alone.new.made.items in
    let second = c.two.new.made.items in
    let op = c.args.op in
    let P : Pair → Type 0 = λ o.
    Makes lexicon second (kind_between o) (λ a. of_two o (a c.args.x) (a c.in_ok-z.z)) place in
    let Q : Kinded → Type 0 = λ k.
    Makes lexicon second k (λ a. of_two (pair_of op) (a c.args.x) (a c.in_ok-z.z)) place in
    then_makes lexicon first second number_kind number_kind (λ a. alone op (a c.args.y))
    (λ p a. of_two (pair_of op) (a c.args.x) p) c.in_ok-z.z place c.in_ok-z.ensures.makes grown
    (subst Q (pair_between op) (subst P c.pair_of.ensures m)))
