use Rattle.std.proofs.Common.{arith, subst}
use Rattle.std.proofs.lemmas.Int.{ints}
use Rattle.std.proofs.lemmas.Result.{IfOk-weaker}
use Rattle.prop_terms.specs.Terms as terms
use Rattle.prop_meaning.specs.inner.Drafts.{Shows}
use Rattle.prop_meaning.proofs.Naming.{shows_number}
use Rattle.prop_meaning.proofs.translating.numeral.Goals as goal

pub returns-clause-shows : goal.returns-clause-shows
returns-clause-shows g c =
    let lexicon = (g.W.Words.lexicon c.args.words.now) in
    let made = c.number.new.made.items in
    IfOk-weaker c.number.result _ _ (λ place m.
    subst (λ k. Shows lexicon made k (terms.Number c.args.n) place) (c.is_same_kind.ensures c.if-not-is_same_kind.false)
    (shows_number lexicon made c.args.n place _ (omega (arith, ints, c.if-n-gt1000000000000000000.false)) m))
    c.number.ensures.makes
