use Rattle.std.proofs.Common.{◌≡◌, Some, subst}
use Rattle.std.proofs.lemmas.Result.{IfOk-weaker}
use Rattle.prop_lattice.specs.Points.{Symbol}
use Rattle.prop_meaning.specs.inner.Drafts.{Makes}
use Rattle.prop_meaning.proofs.Naming.{names_symbol}
use Rattle.prop_meaning.proofs.constants.symbol.Goals as goal

pub returns-clause-names : goal.returns-clause-names
returns-clause-names g c =
    let lexicon = (g.W.Words.lexicon c.args.words.now) in
    let made = c.placed.new.made.items in
    let n = c.in-Some.n in
    let found : lexicon.symbol c.args.word.now ≡ Some n = cc (c.symbol.ensures, c.in-Some.is) in
    IfOk-weaker c.placed.result _ _ (λ place m. names_symbol lexicon made place n c.args.word.now c.args.kinded found
    (subst (λ k. Makes lexicon made k (λ a. Symbol n) place) c.in_ok-known.ensures m)) c.placed.ensures.makes
