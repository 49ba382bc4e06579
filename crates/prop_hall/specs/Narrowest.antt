-- The narrowest information that different points leave.
use Rattle.std.specs.Prelude.{ℕ, ℤ, ◌<◌, List, ◌∷◌, length, map}
use Rattle.std.specs.List.{AllZip}
use Rattle.prop_intervals.specs.Narrowest as numbers
use Rattle.prop_lattice.specs.Order.{HasElement}
use Rattle.prop_lattice.specs.Points.{Number, Holds}
use Rattle.prop_lattice.specs.declared.elements.Elements as sets
use Rattle.prop_lattice.specs.declared.info.Info.TheVariants.{Set, Span}
use Rattle.prop_lattice.specs.declared.span.Span as spans
use Rattle.prop_sets.specs.Narrowest.{IsNarrowest}
use Rattle.prop_hall.specs.Excluding.{excluded_of}
use Rattle.prop_hall.specs.Points.{AreDifferent}

-- j is an element of y, and there are elements of the others, one of each, that with j all differ
abbrev pub IsLeft : sets.Elements → List sets.Elements → ℕ → Type 0
IsLeft y others j = HasElement y j × (points : List ℕ) × AllZip HasElement others points
    × AreDifferent (j ∷ points)

-- v is a number of y, and there are numbers of the others, one of each, that with v all differ
abbrev pub IsLeftNumber : spans.Span → List spans.Span → ℤ → Type 0
IsLeftNumber y others v = Holds (Span y) (Number v) × (points : List ℤ)
    × AllZip (λ s p. Holds (Span s) (Number p)) others points × AreDifferent (v ∷ points)

-- of sets, no information that holds all such elements says more
abbrev pub ExcludedIsNarrowest : Type 0
ExcludedIsNarrowest = (y : sets.Elements) (others : List sets.Elements) → length others < 9
    → IsNarrowest (IsLeft y others) (excluded_of (Set y) (map Set others))

-- of spans, no information that holds all such numbers says more
abbrev pub ExcludedSpanIsNarrowest : Type 0
ExcludedSpanIsNarrowest = (y : spans.Span) (others : List spans.Span) → length others < 9
    → numbers.IsNarrowest (IsLeftNumber y others) (excluded_of (Span y) (map Span others))
