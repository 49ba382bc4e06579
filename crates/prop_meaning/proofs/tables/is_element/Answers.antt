use Rattle.std.proofs.Common.{◌≡◌, ◌∙◌, ℕ, subst, sym}
use Rattle.std.proofs.lemmas.Bool.{eqb-true}
use Rattle.prop_meaning.proofs.tables.is_element.Goals as goal

pub returns-in-Some : goal.returns-in-Some
returns-in-Some g c = λ found law.
    let lexicon = g.W.Words.lexicon c.args.words.now in
    let P : ℕ → Type 0 = λ i. lexicon.element_word c.args.domain i ≡ c.args.word.now in
    subst P (eqb-true c.in-Some.number c.args.i found)
    (law.elements c.args.domain c.args.word.now c.in-Some.number (sym c.element.ensures ∙ c.in-Some.is)).1
