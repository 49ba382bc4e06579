use Rattle.std.proofs.Common.{◌≡◌, ◌-◌, suc, arith}
use Rattle.prop_meaning.proofs.Growing.{both_ok}
use Rattle.prop_meaning.proofs.RelatingLemmas.{makes_more}
use Rattle.prop_meaning.proofs.relating.+and_supported.Goals as goal

pub returns-clause-makes : goal.returns-clause-makes
returns-clause-makes g t c = both_ok c.two.result _ _ _ c.two.ensures.grown c.two.ensures.makes
    (λ place grown m.
    let lexicon = g.W.Words.lexicon c.args.words.now in
    let i = c.args.count - 1 in
    let is : c.args.count ≡ suc i = omega (arith, c.if-count-eq0.false) in
    makes_more lexicon c.args.link i c.args.count c.args.start c.in_ok-before.before c.in_ok-more.more place
    c.and_supported.new.made.items c.supported.new.made.items c.two.new.made.items is c.in_ok-before.ensures.makes
    c.in_ok-more.ensures.grown c.in_ok-more.ensures.makes grown m)
