use Rattle.std.proofs.Common.{◌≡◌, IfSome, subst}
use Rattle.prop_meaning.specs.inner.Drafts.{LiesAt}
use Rattle.prop_meaning.specs.inner.Spans.{HoldsMultiples}
use Rattle.prop_meaning.proofs.DividingLemmas.{good_multiple}
use Rattle.prop_meaning.proofs.dividing.multiple.Goals as goal

pub placed-requires-clause-good : goal.placed-requires-clause-good
placed-requires-clause-good g c =
    let lexicon = g.W.Words.lexicon c.args.words.now in
    let made = c.args.made.now.items in
    let s = c.span_at.result in
    let t = c.span_at-2.result in
    good_multiple lexicon made c.args.x c.args.y c.args.q s t c.in_ok-known.known c.requires.sound c.requires.first
    c.requires.second c.requires.quotient (let e : c.deref.result.now ≡ made = cc (c.deref.ensures.value) in
    subst (λ m. LiesAt lexicon m c.args.x s) e c.span_at.ensures)
    (let e : c.deref-2.result.now ≡ made = cc (c.deref-2.ensures.value) in
    subst (λ m. LiesAt lexicon m c.args.y t) e c.span_at-2.ensures) c.in_ok-known.ensures.0
    (subst (λ o. IfSome o (HoldsMultiples s t)) c.in_ok-known.ensures.1 c.multiple-span.ensures)
