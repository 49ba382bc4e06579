use Rattle.std.proofs.Common.{sym, ◌∙◌}
use Rattle.prop_plans.proofs.Values.{value_tested, value_single}
use Rattle.prop_plans.proofs.looking.is_value_of.Goals as goal

pub returns-then-is_of : goal.returns-then-is_of
returns-then-is_of c = (
  λ t. value_tested c.args.kind c.args.info (c.is_of.ensures.0 c.if-is_of.true) (sym c.is_single.ensures ∙ t),
  λ v. c.is_single.ensures ∙ value_single c.args.kind c.args.info v,
)
