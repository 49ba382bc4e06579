use Rattle.std.proofs.Common.{◌≡◌, ◌∙◌, Some, ap, sym}
use Rattle.prop_terms.specs.Terms.{term_of}
use Rattle.prop_meaning.specs.inner.Drafts.{known_at}
use Rattle.prop_meaning.proofs.ForeseeLemmas.{is_foreseen}
use Rattle.prop_meaning.proofs.foreseeing.foresee.Goals as goal

pub returns-in-Some-Ok : goal.returns-in-Some-Ok
returns-in-Some-Ok g c =
    let lexicon = g.W.Words.lexicon c.args.words.now in
    let made = c.translated.new.made.items in
    let place = c.in_ok-place.place in
    let at : known_at lexicon made place ≡ Some c.in-Some-Ok.known =
    ap (λ l. known_at lexicon l place) (sym c.deref.ensures.value)
    ∙ sym c.known_at-known.ensures ∙ c.in-Some-Ok.is-0 in
    is_foreseen lexicon made place c.in-Some-Ok.known c.args.kinded (term_of c.args.term.now)
    c.in_ok-place.ensures.grown.sound at c.in_ok-place.ensures.shows
