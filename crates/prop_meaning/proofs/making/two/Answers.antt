use Rattle.std.proofs.Common.{◌≡◌, Some}
use Rattle.prop_meaning.specs.inner.Drafts.{known_at}
use Rattle.prop_meaning.proofs.Goodness.{good_two}
use Rattle.prop_meaning.proofs.making.two.Goals as goal

pub placed-requires-clause-good : goal.placed-requires-clause-good
placed-requires-clause-good g c =
    let made = c.args.made.now.items in
    let left : known_at (g.W.Words.lexicon c.args.words.now) made c.args.x ≡ Some c.in-Some-Some.left =
    cc (c.deref.ensures.value, c.known_at.ensures, c.in-Some-Some.is-0) in
    let right : known_at (g.W.Words.lexicon c.args.words.now) made c.args.y ≡ Some c.in-Some-Some.right =
    cc (c.deref-2.ensures.value, c.known_at-2.ensures, c.in-Some-Some.is-1) in
    good_two (g.W.Words.lexicon c.args.words.now) made c.args.op c.args.x c.args.y
    c.in-Some-Some.left c.in-Some-Some.right
    c.in_ok-known.known c.requires.sound c.requires.suits left right c.in_ok-known.ensures.kind
    c.in_ok-known.ensures.tells
