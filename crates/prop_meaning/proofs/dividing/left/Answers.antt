use Rattle.std.proofs.Common.{◌≡◌, IfSome, subst}
use Rattle.prop_meaning.specs.inner.Drafts.{LiesAt}
use Rattle.prop_meaning.specs.inner.Spans.{HoldsLeft}
use Rattle.prop_meaning.proofs.DividingLemmas.{good_left}
use Rattle.prop_meaning.proofs.dividing.left.Goals as goal

pub placed-requires-clause-good : goal.placed-requires-clause-good
placed-requires-clause-good g c =
    let lexicon = g.W.Words.lexicon c.args.words.now in
    let made = c.args.made.now.items in
    let t = c.span_at.result in
    good_left lexicon made c.args.x c.args.p c.args.y t c.in_ok-known.known c.requires.sound c.requires.first
    c.requires.multiple c.requires.second (let e : c.deref.result.now ≡ made = cc (c.deref.ensures.value) in
    subst (λ m. LiesAt lexicon m c.args.y t) e c.span_at.ensures) c.requires.left c.in_ok-known.ensures.0
    (subst (λ o. IfSome o (HoldsLeft t)) c.in_ok-known.ensures.1 c.left_by-span.ensures)
