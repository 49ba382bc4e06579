use Rattle.prop_terms.specs.Terms.{term_of}
use Rattle.prop_meaning.proofs.BraceLemmas.{makes_labelled, makes_alone}
use Rattle.prop_meaning.proofs.Growing.{has_grows}
use Rattle.prop_meaning.proofs.braces.is_labelled.Goals as goal

pub returns-in-Ok-two-clause-makes : goal.returns-in-Ok-two-clause-makes
returns-in-Ok-two-clause-makes g c =
    let lexicon = g.W.Words.lexicon c.args.words.now in
    let first = c.labelled.new.made.items in
    makes_labelled lexicon c.args.kinded (term_of c.args.term.now) c.args.x c.in-Ok.y c.in-Ok-two.place first
    c.two.new.made.items (has_grows lexicon c.args.made.now.items first c.args.x c.args.kinded
    c.in-Ok.ensures.grown.grows c.requires.has) c.in-Ok.ensures.labels c.in-Ok-two.ensures.grown
    c.in-Ok-two.ensures.makes

pub returns-in-Ok-two-clause-alone : goal.returns-in-Ok-two-clause-alone
returns-in-Ok-two-clause-alone g c =
    let lexicon = g.W.Words.lexicon c.args.words.now in
    let first = c.labelled.new.made.items in
    makes_alone lexicon c.args.kinded (term_of c.args.term.now) c.args.x c.in-Ok.y c.in-Ok-two.place first
    c.two.new.made.items (has_grows lexicon c.args.made.now.items first c.args.x c.args.kinded
    c.in-Ok.ensures.grown.grows c.requires.has) c.in-Ok.ensures.labels c.in-Ok-two.ensures.grown
    c.in-Ok-two.ensures.makes
