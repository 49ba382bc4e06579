-- Two spans are the arguments of one call.
use Rattle.std.proofs.Common.{[], ◌∷◌, None, refl}
use Rattle.prop_lattice.specs.declared.span.Span as spans
use Rattle.prop_lattice.specs.declared.info.Info.TheVariants.{Span as span}
use Rattle.prop_procedures.specs.declared.shape.Param.TheVariants.{Plain}
use Rattle.prop_procedures.specs.declared.shape.Shape.TheVariants.{Span}
use Rattle.prop_procedures.specs.declared.shape.Need.TheVariants.{Nothing}
use Rattle.prop_procedures.specs.Rules.{IsCall}
use Rattle.prop_procedures.specs.Stored.{span_kind}

pub spans_call : (x y : spans.Span) → IsCall (Span ∷ Span ∷ []) Nothing Plain (span x ∷ span y ∷ [])
spans_call x y = (
  (λ n. span_kind),
  record {
    admits = (None, refl);
    sides = tt;
    of_kinds = (tt, (tt, tt));
    clear = ((λ e. cc), ((λ e. cc), tt));
  },
)
