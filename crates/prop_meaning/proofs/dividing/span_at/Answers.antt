use Rattle.std.proofs.Common.{◌≡◌, Some}
use Rattle.prop_meaning.specs.inner.Drafts.{known_at}
use Rattle.prop_meaning.proofs.DividingLemmas.{lies_at}
use Rattle.prop_meaning.proofs.dividing.span_at.Goals as goal

pub returns : goal.returns
returns g c =
    let lexicon = g.W.Words.lexicon c.args.words.now in
    let known : known_at lexicon c.args.made.now c.args.x ≡ Some c.in-Some.known =
    cc (c.known_at.ensures, c.in-Some.is) in
    lies_at lexicon c.args.made.now c.args.x c.in-Some.known c.requires.sound known
