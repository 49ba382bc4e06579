use Rattle.std.proofs.Common.{◌≡◌, ◌∙◌, true, Some, subst, sym}
use Rattle.prop_procedures.specs.declared.shape.Kinded.{Kinded}
use Rattle.prop_terms.specs.Terms.{term_of}
use Rattle.prop_meaning.specs.Words.{value_as}
use Rattle.prop_meaning.specs.inner.Drafts.{known_at}
use Rattle.prop_meaning.specs.inner.Tables.{is_key}
use Rattle.prop_meaning.proofs.Goodness.{kind_known}
use Rattle.prop_meaning.proofs.Growing.{is_point}
use Rattle.prop_meaning.proofs.tables.has_all_keys.Goals as goal

pub returns-in-Some : goal.returns-in-Some
returns-in-Some g c = λ all a r.
    let lexicon = g.W.Words.lexicon c.args.words.now in
    let made = c.args.made.now in
    let place = c.args.lookup.place in
    let known = c.in-Some.known in
    let at : known_at lexicon made place ≡ Some known = sym c.known_at.ensures ∙ c.in-Some.is in
    let same = kind_known (known_at lexicon made place) known c.args.lookup.keyed at c.requires.has in
    let P : Kinded → Type 0 = λ k. is_key (term_of c.args.rows.now) (Some (value_as lexicon k (a place))) ≡ true in
    subst P same (c.has_each.ensures all r.words (a place)
    (is_point lexicon made place known a c.requires.sound r at).within)
