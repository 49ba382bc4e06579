use Rattle.std.proofs.Common.{◌∙◌, ◌≤◌, All, arith, length, subst, sym}
use Rattle.std.specs.Prelude.{IsTrue}
use Rattle.std.specs.List.{list_any}
use Rattle.std.proofs.lemmas.List.{take_all}
use Rattle.std.proofs.lemmas.List.Elements.{All-more}
use Rattle.prop_numbers.specs.Sets.{set_of}
use Rattle.prop_hitting.specs.declared.conflict.Conflict.{Conflict}
use Rattle.prop_hitting.proofs.conflict.missed.Goals as goal

pub loop-conflict-preserved : goal.loop-conflict-preserved
loop-conflict-preserved c =
    let P : Conflict → Type 0 = λ x. IsTrue (list_any (set_of c.args.set.now) x.premises) in
    All-more P c.args.conflicts.now c.loop-conflict.conflict-index c.conflict-item.result c.loop-conflict-test.true
    c.loop-conflict.invariant
    (subst P c.conflict-item.is (sym c.has_some.ensures ∙ c.if-not-has_some.false))

pub returns-clause-none : goal.returns-clause-none
returns-clause-none c none =
    let P : Conflict → Type 0 = λ x. IsTrue (list_any (set_of c.args.set.now) x.premises) in
    let n = c.loop-conflict.conflict-index in
    let whole : length c.args.conflicts.now ≤ n = omega (arith, c.loop-conflict-test.false) in
    subst (All P) (take_all n c.args.conflicts.now whole) c.loop-conflict.invariant
