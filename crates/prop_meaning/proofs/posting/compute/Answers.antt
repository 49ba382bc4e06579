use Rattle.prop_terms.specs.Terms.{term_of}
use Rattle.prop_meaning.proofs.PostingLemmas.{is_value}
use Rattle.prop_meaning.proofs.posting.compute.Goals as goal

pub returns-in-Ok-clause-value : goal.returns-in-Ok-clause-value
returns-in-Ok-clause-value g c =
    let lexicon = g.W.Words.lexicon c.args.words.now in
    let made = c.translated.new.made.items in
    is_value lexicon made c.in-Ok.posted c.in_ok-place.place c.args.kinded (term_of c.args.term.now)
    c.in_ok-place.ensures.grown.sound
    (rw (← c.count.ensures.value, ← c.deref.ensures.value) c.in-Ok.ensures) c.in_ok-place.ensures.shows
