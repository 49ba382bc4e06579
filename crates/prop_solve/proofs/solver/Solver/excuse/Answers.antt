use Rattle.std.proofs.Common.{◌∷◌, ◌++◌, [], Global, List, Vec, map, subst, sym}
use Rattle.std.proofs.lemmas.List.{map-append}
use Rattle.prop_facts.specs.declared.fact.Literal.{Literal}
use Rattle.prop_solve.specs.Questions.{Grow}
use Rattle.prop_solve.specs.Searches.{Search}
use Rattle.prop_solve.proofs.SearchLemmas.{grow_by_one}
use Rattle.prop_solve.proofs.solver.Solver.excuse.Goals as goal

pub returns-clause-grows : goal.returns-clause-grows
returns-clause-grows c = λ ok.
    let items : Vec Literal Global → List Literal = λ v. v.items in
    let more = c.in_ok-more.more in
    let before = c.self.inside.excuses.items in
    let grow : Grow (map items before) (map items before ++ more.items ∷ []) =
    grow_by_one (map items before) more.items in
    let Q : List (List Literal) → Type 0 = λ l. Grow (map items before) l in
    let S : Search → Type 0 = λ s. Grow s.excuses (map items (before ++ more ∷ [])) in
    let T : List (Vec Literal Global) → Type 0 = λ xs. Grow c.args.self.now.excuses (map items xs) in
    subst T (sym c.in_ok-push.ensures.items) (subst S c.self.view_is
    (subst Q (sym (map-append items before (more ∷ []))) grow))
