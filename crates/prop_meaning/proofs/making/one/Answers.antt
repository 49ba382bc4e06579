use Rattle.std.proofs.Common.{◌≡◌, Some}
use Rattle.prop_meaning.specs.inner.Drafts.{known_at}
use Rattle.prop_meaning.proofs.Goodness.{good_one}
use Rattle.prop_meaning.proofs.making.one.Goals as goal

pub placed-requires-clause-good : goal.placed-requires-clause-good
placed-requires-clause-good g c =
    let made = c.args.made.now.items in
    let under : known_at (g.W.Words.lexicon c.args.words.now) made c.args.x ≡ Some c.in-Some.under =
    cc (c.deref.ensures.value, c.known_at.ensures, c.in-Some.is) in
    good_one (g.W.Words.lexicon c.args.words.now) made c.args.op c.args.x c.in-Some.under
    c.in_ok-known.known c.requires.sound
    c.requires.suits under c.in_ok-known.ensures.kind c.in_ok-known.ensures.tells
