use Rattle.std.proofs.Common.{◌<◌, ◌+◌, ◌++◌, ◌∷◌, [], ℕ, List, arith, length, subst, sym, take}
use Rattle.std.specs.List.{AllZip}
use Rattle.std.proofs.lemmas.List.{take_more}
use Rattle.prop_facts.specs.declared.fact.Literal.{Literal}
use Rattle.prop_solve.specs.Questions.{IsValueFact}
use Rattle.prop_solve.proofs.SearchLemmas.{zip_push}
use Rattle.prop_solve.proofs.question.all_the_same.Goals as goal

pub loop-cell-preserved : goal.loop-cell-preserved
loop-cell-preserved c =
    let R : ℕ → Literal → Type 0 = IsValueFact c.args.values.now in
    let named = c.args.named.now in
    let i = c.loop-cell.cell-index in
    let facts = c.loop-cell.facts.items in
    let fact = c.in-Some.fact in
    let within : i < length named = omega arith in
    let P : List Literal → Type 0 = AllZip R (take (i + 1) named) in
    let Q : List ℕ → Type 0 = λ l. AllZip R l (facts ++ fact ∷ []) in
    subst P (sym c.in_ok-push.ensures.items) (subst Q (sym (take_more named i 0 within))
    (zip_push R (take i named) facts _ fact c.loop-cell.invariant c.in-Some.ensures))
