use Rattle.std.proofs.Common.{◌<◌, ◌≡◌, ℕ, arith, below_more, length, subst}
use Rattle.prop_lattice.specs.declared.info.Info.{Info}
use Rattle.prop_lattice.specs.declared.info.Info.TheVariants.{Nothing}
use Rattle.prop_procedures.specs.declared.shape.Kinded.{Kinded}
use Rattle.prop_procedures.specs.Fitting.{kind_at}
use Rattle.prop_contents.proofs.Trimming.{read_there}
use Rattle.prop_plans.specs.Plans.{IsValueOf, value_in}
use Rattle.prop_plans.proofs.looking.are_values.Goals as goal

pub loop-cell-preserved : goal.loop-cell-preserved
loop-cell-preserved c =
    let kinds = c.args.cells.now.kinds in
    let values = c.args.values.now in
    let cell = c.loop-cell.cell in
    let within : cell < length values = omega arith in
    let value : c.index-values-cell.result ≡ value_in values cell =
    read_there values cell c.index-values-cell.result Nothing within c.index-values-cell.is in
    let here : IsValueOf c.kind.result c.index-values-cell.result =
    c.is_value_of.ensures.0 c.if-not-is_value_of.false in
    below_more (λ (k : ℕ). IsValueOf (kind_at kinds k) (value_in values k)) cell c.loop-cell.invariant
    (subst (λ (a : Info). IsValueOf (kind_at kinds cell) a) value
    (subst (λ (k : Kinded). IsValueOf k c.index-values-cell.result) c.kind.ensures here))
