use Rattle.std.proofs.Common.{◌≡◌, ◌∙◌, sym, ap}
use Rattle.std.specs.Option.{option_map_or}
use Rattle.prop_procedures.specs.declared.shape.Shape.TheVariants.{Span}
use Rattle.prop_procedures.specs.contracts.shape.ShapePartialEq.TheImpl.{eq-value as same_shape}
use Rattle.prop_procedures.specs.Stored.{span_kind}
use Rattle.prop_procedures.proofs.Positions.{found, not_found}
use Rattle.prop_procedures.proofs.fitting.first_kind.Goals as goal

pub returns-in-Some : goal.returns-in-Some
returns-in-Some c =
    ap (λ o. option_map_or (λ place. place.1) o span_kind)
    (sym (found (λ place. same_shape.it place.0 c.args.shape) c.args.places.now c.in-Some.i (Span, span_kind)
    (sym c.in-Some.ensures)))

pub returns-in-None : goal.returns-in-None
returns-in-None c =
    c.span_kinded.ensures ∙ ap (λ o. option_map_or (λ place. place.1) o span_kind)
    (sym (not_found (λ place. same_shape.it place.0 c.args.shape) c.args.places.now (sym c.in-None.ensures)))
