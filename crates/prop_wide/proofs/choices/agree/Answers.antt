use Rattle.std.proofs.Common.{◌∙◌}
use Rattle.std.specs.Prelude.{not}
use Rattle.prop_arith.specs.inner.Compared.{is_just}
use Rattle.prop_intervals.specs.Comparisons.{no_bits}
use Rattle.prop_procedures.specs.declared.shape.Param.TheVariants.{Plain}
use Rattle.prop_wide.proofs.choices.agree.Goals as goal

pub returns : goal.returns
returns c = (λ i. not (c.is_no.ensures i)) ∙ (λ i. not (is_just no_bits (c.comparer.ensures Plain i)))
