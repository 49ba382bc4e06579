use Rattle.std.proofs.Common.{◌<◌, ◌≤◌, All, Global, List, Vec, arith, length, subst}
use Rattle.std.proofs.lemmas.List.{take_all}
use Rattle.std.proofs.lemmas.List.Elements.{All-more}
use Rattle.prop_facts.specs.declared.fact.Literal.{Literal}
use Rattle.prop_solve.specs.Questions.{Imply}
use Rattle.prop_solve.proofs.solver.are_better.Goals as goal

pub loop-before-preserved : goal.loop-before-preserved
loop-before-preserved c =
    let P : Vec Literal Global → Type 0 = λ b. Imply b.items c.args.facts.now in
    let Q : List Literal → Type 0 = λ l. Imply l c.args.facts.now in
    let n = c.loop-before.before-index in
    let within : n < length c.args.excuses.now = omega arith in
    All-more P c.args.excuses.now n c.before-item.result within c.loop-before.invariant
    (subst P c.before-item.is (subst Q c.deref.ensures.value (c.is_better.ensures c.if-not-is_better.false)))

pub returns : goal.returns
returns c =
    let P : Vec Literal Global → Type 0 = λ b. Imply b.items c.args.facts.now in
    let Q : List (Vec Literal Global) → Type 0 = λ xs. All P xs in
    let n = c.loop-before.before-index in
    let whole : length c.args.excuses.now ≤ n = omega arith in
    λ t. subst Q (take_all n c.args.excuses.now whole) c.loop-before.invariant
