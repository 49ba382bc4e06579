use Rattle.std.proofs.Common.{◌<◌, ◌≤◌, All, List, arith, length, refl, subst}
use Rattle.std.proofs.lemmas.List.{take_all}
use Rattle.std.proofs.lemmas.List.Elements.{All-more}
use Rattle.prop_numbers.specs.Sets.{set_of}
use Rattle.prop_cells.specs.declared.instance.Statement.{Statement}
use Rattle.prop_cells.specs.inner.Problems.{Satisfies}
use Rattle.prop_plans.specs.Plans.{value_in}
use Rattle.prop_plans.proofs.looking.are_implied.Goals as goal

pub loop-statement-preserved : goal.loop-statement-preserved
loop-statement-preserved c =
    let s = set_of c.args.view.now in
    let a = value_in c.args.values.now in
    let n = c.loop-statement.statement-index in
    let x = c.statement-item.result in
    let within : n < length c.args.statements.now = omega arith in
    All-more (Satisfies s a) c.args.statements.now n x within c.loop-statement.invariant
    (subst (λ (y : Statement). Satisfies s a y) c.statement-item.is
    (c.is_implied.ensures.0 c.if-not-is_implied.false))

pub returns : goal.returns
returns c =
    let s = set_of c.args.view.now in
    let a = value_in c.args.values.now in
    let n = c.loop-statement.statement-index in
    let whole : length c.args.statements.now ≤ n = omega arith in (
      λ t. subst (λ (xs : List Statement). All (Satisfies s a) xs) (take_all n c.args.statements.now whole)
          c.loop-statement.invariant,
      λ h. refl,
    )
