use Rattle.std.proofs.Common.{◌≡◌, subst}
use Rattle.prop_meaning.specs.inner.Drafts.{LiesAt}
use Rattle.prop_meaning.proofs.DividingLemmas.{never_by}
use Rattle.prop_meaning.proofs.dividing.divided_surely.Goals as goal

pub divided-requires-clause-divides : goal.divided-requires-clause-divides
divided-requires-clause-divides g c =
    let lexicon = g.W.Words.lexicon c.args.words.now in
    let made = c.args.made.now.items in
    let s = c.span_at.result in
    let e : c.deref.result.now ≡ made = cc (c.deref.ensures.value) in
    never_by lexicon made c.args.y s (subst (λ m. LiesAt lexicon m c.args.y s) e c.span_at.ensures)
    (c.is_without_zero.ensures c.if-not-is_without_zero.false)
