use Rattle.std.proofs.Common.{◌≡◌, ◌∙◌, ℕ, List, Option, Some, None, refl, sym, ap}
use Rattle.std.specs.List.{find}
use Rattle.std.specs.Option.{option_map_or}
use Rattle.prop_procedures.specs.contracts.shape.ShapePartialEq.TheImpl.{eq-value as same_shape}
use Rattle.prop_procedures.specs.declared.shape.Kinded.{Kinded}
use Rattle.prop_procedures.specs.declared.shape.Need.{Need}
use Rattle.prop_procedures.specs.declared.shape.Need.TheVariants as needs
use Rattle.prop_procedures.specs.declared.shape.Shape.{Shape}
use Rattle.prop_procedures.specs.declared.shape.Shape.TheVariants.{Span, Truth, Any}
use Rattle.prop_procedures.specs.Stored.{kind_among, span_kind}
use Rattle.prop_sets.specs.declared.side.Side.{Side}
use Rattle.prop_procedures.proofs.fitting.kind_among.Goals as goal

abbrev first_kind : List (Shape × Kinded) → Shape → Kinded
first_kind places shape = option_map_or (λ place. place.1)
    (find (λ place. same_shape.it place.0 shape) places) span_kind

span_among : (need : Need) (given : Option (Side × Side)) (places : List (Shape × Kinded))
    → kind_among need given places Span ≡ Some (first_kind places Span)
span_among need (Some sides) places = refl
span_among needs.Nothing None places = refl
span_among needs.Scale None places = refl
span_among needs.Rows None places = refl

truth_among : (need : Need) (given : Option (Side × Side)) (places : List (Shape × Kinded))
    → kind_among need given places Truth ≡ Some (first_kind places Truth)
truth_among need (Some sides) places = refl
truth_among needs.Nothing None places = refl
truth_among needs.Scale None places = refl
truth_among needs.Rows None places = refl

any_among : (need : Need) (given : Option (Side × Side)) (places : List (Shape × Kinded)) (n : ℕ)
    → kind_among need given places (Any n) ≡ Some (first_kind places (Any n))
any_among need (Some sides) places n = refl
any_among needs.Nothing None places n = refl
any_among needs.Scale None places n = refl
any_among needs.Rows None places n = refl

pub returns-in-Span-default : goal.returns-in-Span-default
returns-in-Span-default c = ap Some c.first_kind.ensures ∙ sym (rw c.in-Span-default.is-0
    (span_among c.args.need c.args.given c.args.places.now))

pub returns-in-Truth-default : goal.returns-in-Truth-default
returns-in-Truth-default c = ap Some c.first_kind-in-Truth-default.ensures ∙ sym (rw c.in-Truth-default.is-0
    (truth_among c.args.need c.args.given c.args.places.now))

pub returns-in-Any-default : goal.returns-in-Any-default
returns-in-Any-default c = ap Some c.first_kind-in-Any-default.ensures ∙ sym (rw c.in-Any-default.is-0
    (any_among c.args.need c.args.given c.args.places.now c.in-Any-default.field-0-0))
