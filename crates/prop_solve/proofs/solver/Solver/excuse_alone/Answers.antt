use Rattle.std.proofs.Common.{◌≡◌, ◌∙◌, ◌∷◌, ◌++◌, [], All, Global, List, Vec, ap, map, subst, sym}
use Rattle.std.proofs.lemmas.List.Elements.{All-map}
use Rattle.prop_facts.specs.declared.fact.Literal.{Literal}
use Rattle.prop_solve.specs.Questions.{Grow, Imply}
use Rattle.prop_solve.specs.Searches.{Search}
use Rattle.prop_solve.proofs.SearchLemmas.{grow_by_better}
use Rattle.prop_solve.proofs.solver.Solver.excuse_alone.Goals as goal

pub returns-clause-grows : goal.returns-clause-grows
returns-clause-grows c = λ ok.
    let items : Vec Literal Global → List Literal = λ v. v.items in
    let facts = c.args.facts.items in
    let before = c.self.inside.excuses.items in
    let P : List Literal → Type 0 = λ old. Imply old facts in
    let Q : List Literal → Type 0 = λ l. All (λ (b : Vec Literal Global). Imply b.items l) c.deref.result.now in
    let R : List (Vec Literal Global) → Type 0 = λ xs. All (λ (b : Vec Literal Global). Imply b.items facts) xs in
    let better : R before =
    subst R c.deref.ensures.value (subst Q c.deref-2.ensures.value (c.are_better.ensures c.if-not-are_better.false)) in
    let grow : Grow (map items before) (facts ∷ []) =
    grow_by_better (map items before) facts (All-map P items before better) in
    let S : Search → Type 0 = λ s. Grow s.excuses (facts ∷ []) in
    let T : List (Vec Literal Global) → Type 0 = λ xs. Grow c.args.self.now.excuses (map items xs) in
    let new : c.push.new.self.items ≡ c.args.facts ∷ [] =
    c.in_ok-push.ensures.items ∙ ap (λ (l : List (Vec Literal Global)). l ++ c.args.facts ∷ []) c.clear.ensures.items in
    subst T (sym new) (subst S c.self.view_is grow)
