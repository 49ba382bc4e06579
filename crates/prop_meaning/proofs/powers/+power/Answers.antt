use Rattle.std.proofs.Common.{◌≡◌, ◌≤◌, arith}
use Rattle.prop_meaning.specs.inner.Drafts.{number_kind}
use Rattle.prop_meaning.proofs.Growing.{both_ok, has_grows}
use Rattle.prop_meaning.proofs.PowerLemmas.{makes_none, makes_next}
use Rattle.prop_meaning.proofs.powers.+power.Goals as goal

pub returns-then-n-eq0-clause-makes : goal.returns-then-n-eq0-clause-makes
returns-then-n-eq0-clause-makes g t c =
    let lexicon = g.W.Words.lexicon c.args.words.now in
    let old = c.args.made.now.items in
    let new = c.number.new.made.items in
    let none : c.args.n ≡ 0 = omega (arith, c.if-n-eq0.true) in
    both_ok c.number.result _ _ _ c.number.ensures.grown c.number.ensures.makes (λ place grown m.
    makes_none lexicon new c.args.n c.args.x place grown.sound
    (has_grows lexicon old new c.args.x number_kind grown.grows c.requires.number) none m)

pub returns-clause-makes : goal.returns-clause-makes
returns-clause-makes g t c =
    let lexicon = g.W.Words.lexicon c.args.words.now in
    let old = c.args.made.now.items in
    let first = c.power.new.made.items in
    let some : 1 ≤ c.args.n = omega (arith, c.if-n-eq0.false) in
    both_ok c.two.result _ _ _ c.two.ensures.grown c.two.ensures.makes (λ place grown m.
    makes_next lexicon first c.two.new.made.items c.args.n c.args.x c.in_ok-y.y place some
    (has_grows lexicon old first c.args.x number_kind c.in_ok-y.ensures.grown.grows c.requires.number)
    c.in_ok-y.ensures.makes grown m)
