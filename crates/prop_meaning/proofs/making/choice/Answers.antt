use Rattle.std.proofs.Common.{◌≡◌, ◌∙◌, Some, subst}
use Rattle.std.proofs.lemmas.Result.{IfOk-weaker}
use Rattle.prop_meaning.specs.inner.Drafts.{known_at, Makes}
use Rattle.prop_meaning.specs.inner.Steps.{chosen}
use Rattle.prop_meaning.proofs.Goodness.{good_choice, only_kind}
use Rattle.prop_meaning.proofs.making.choice.Goals as goal

pub placed-requires-clause-good : goal.placed-requires-clause-good
placed-requires-clause-good g c =
    let lexicon = g.W.Words.lexicon c.args.words.now in
    let made = c.args.made.now.items in
    let left : known_at lexicon made c.args.x ≡ Some c.in-Some-Some.left =
    cc (c.deref.ensures.value, c.known_at.ensures, c.in-Some-Some.is-0) in
    let right : known_at lexicon made c.args.y ≡ Some c.in-Some-Some.right =
    cc (c.deref-2.ensures.value, c.known_at-2.ensures, c.in-Some-Some.is-1) in
    good_choice lexicon made c.args.t c.args.x c.args.y c.in-Some-Some.left c.in-Some-Some.right c.in_ok-known.known
    c.requires.sound c.requires.truth c.requires.suits left right c.in_ok-known.ensures.kind c.in_ok-known.ensures.tells

pub returns-clause-makes : goal.returns-clause-makes
returns-clause-makes g c kinded has =
    let lexicon = g.W.Words.lexicon c.args.words.now in
    let made = c.args.made.now.items in
    let left : known_at lexicon made c.args.x ≡ Some c.in-Some-Some.left =
    cc (c.deref.ensures.value, c.known_at.ensures, c.in-Some-Some.is-0) in
    let kind = c.in_ok-known.ensures.kind ∙ only_kind lexicon made c.args.x c.in-Some-Some.left kinded left has in
    IfOk-weaker c.placed.result _ _ (λ place m.
    subst (λ k. Makes lexicon c.placed.new.made.items k
    (λ a. chosen (a c.args.t) (a c.args.x) (a c.args.y)) place) kind m)
    c.placed.ensures.makes
