use Rattle.std.proofs.Common.{◌≡◌, ◌∙◌, ◌<◌, Some, ap, sym, subst, ◌+◌, length}
use Rattle.std.proofs.lemmas.Result.{IfOk-weaker}
use Rattle.prop_lattice.specs.Points.{Element}
use Rattle.prop_meaning.specs.inner.Drafts.{Makes}
use Rattle.prop_meaning.proofs.Naming.{good_element, names_element}
use Rattle.prop_meaning.proofs.constants.element.Goals as goal

pub placed-requires-clause-good : goal.placed-requires-clause-good
placed-requires-clause-good g c =
    let lexicon = (g.W.Words.lexicon c.args.words.now) in
    let made = c.args.made.now.items in
    let k = c.in_ok-known.known in
    let i = c.in-Some.i in
    let found : lexicon.element c.in-Set.domain c.args.word.now ≡ Some i = cc (c.element.ensures, c.in-Some.is) in
    good_element lexicon made (lexicon.count + length made) c.in-Set.domain i c.args.word.now k
    (ap (λ n. n.kind) c.in_ok-known.ensures ∙ c.in-Set.is)
    (subst (λ n. i < n) (sym (ap (λ n. n.size) c.in_ok-known.ensures)) c.if-i-kinded.false) c.if-i-ge64.false found

pub returns-clause-names : goal.returns-clause-names
returns-clause-names g c =
    let lexicon = (g.W.Words.lexicon c.args.words.now) in
    let made = c.placed.new.made.items in
    let i = c.in-Some.i in
    let found : lexicon.element c.in-Set.domain c.args.word.now ≡ Some i = cc (c.element.ensures, c.in-Some.is) in
    IfOk-weaker c.placed.result _ _ (λ place m. names_element lexicon made place c.in-Set.domain i c.args.word.now
    c.args.kinded c.in-Set.is found
    (subst (λ n. Makes lexicon made n (λ a. Element i) place) c.in_ok-known.ensures m)) c.placed.ensures.makes
