use Rattle.prop_rows.proofs.ExactLaws.{rows_are_exact}
use Rattle.prop_rows.proofs.laws.rows_are_exact.Goals as goal

pub returns : goal.returns
returns c = rows_are_exact
