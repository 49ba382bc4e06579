-- What the rules of the kit answer.
use Rattle.std.specs.Prelude.{List, [], ◌∷◌, ◌+ℤ◌, ◌-ℤ◌, ◌*ℤ◌, neg_ℤ, pos, int_lt, int_le, ◌==◌}
use Rattle.std.specs.Prelude.{if◌then◌else◌, ◌&&◌}
use Rattle.std.specs.Int.{int_min, int_max}
use Rattle.prop_intervals.specs.Comparisons.{yes_bits, no_bits}
use Rattle.prop_intervals.specs.Clip.{clip}
use Rattle.prop_intervals.specs.Roots.{roots_between}
use Rattle.prop_intervals.specs.Spans.{holds_zero, product_of, quotient_of}
use Rattle.prop_lattice.specs.Ends.{span_from, elements_from}
use Rattle.prop_lattice.specs.Order.{merge_of, is_contradiction}
use Rattle.prop_lattice.specs.declared.span.TheConstants.{B}
use Rattle.prop_lattice.specs.declared.info.Info.{Info}
use Rattle.prop_lattice.specs.declared.info.Info.TheVariants.{Nothing, Span, Set}
use Rattle.prop_procedures.specs.Rules.{is_scale}
use Rattle.prop_procedures.specs.declared.shape.Param.{Param}
use Rattle.prop_procedures.specs.declared.shape.Param.TheVariants.{Scale, Rows}
use Rattle.prop_sets.specs.Images.{image_of, coimage_of}
use Rattle.prop_sets.specs.Truth.{truth_of, is_and, is_or, is_not}
use Rattle.prop_arith.specs.Comparing.{is_single, others_of}
use Rattle.prop_arith.specs.declared.kit.Kit as kits
use Rattle.prop_arith.specs.declared.kit.Kit.TheVariants.{Add, Sub, Mul, Div, Square, Root, Less}
use Rattle.prop_arith.specs.declared.kit.Kit.TheVariants.{Below, Above, Copy, Alike, Apart, Switch}
use Rattle.prop_arith.specs.declared.kit.Kit.TheVariants.{Not, And, AndBack, Or, OrBack, Image}
use Rattle.prop_arith.specs.declared.kit.Kit.TheVariants.{Coimage}

-- what a rule answers to a parameter and arguments: nothing where too little is known, and where
-- they don't fit
abbrev pub value_of : kits.Kit → Param → List Info → Info
value_of Add param (Span x ∷ Span y ∷ []) = clip (x.lo +ℤ y.lo) (x.hi +ℤ y.hi)
value_of Sub param (Span z ∷ Span x ∷ []) = clip (z.lo -ℤ x.hi) (z.hi -ℤ x.lo)
value_of Mul (Scale k) (Span x ∷ Span y ∷ []) = if is_scale k then product_of x y k else Nothing
value_of Div (Scale k) (Span z ∷ Span y ∷ []) = if is_scale k then quotient_of z y k else Nothing
-- the least square is 0 where x holds 0, and else that of an end
value_of Square param (Span x ∷ []) = clip (if holds_zero x then pos 0 else int_min (x.lo *ℤ x.lo)
    (x.hi *ℤ x.hi)) (int_max (x.lo *ℤ x.lo) (x.hi *ℤ x.hi))
-- among what is known of the root already
value_of Root param (Span y ∷ Span x ∷ []) = roots_between y x.lo x.hi
value_of Root param (Span y ∷ x ∷ []) = roots_between y (neg_ℤ B) B
-- yes where all numbers of x are less than all of y, no where none of x is less than one of y
value_of Less param (Span x ∷ Span y ∷ []) = if int_lt x.hi y.lo then elements_from yes_bits
    else (if int_le y.hi x.lo then elements_from no_bits else Nothing)
-- what is below, or not below, some number of y; above, or not above, some number of x
value_of Below param (Set t ∷ Span y ∷ []) = if t.bits == yes_bits then span_from (neg_ℤ B)
    (y.hi -ℤ pos 1) else (if t.bits == no_bits then span_from y.lo B else Nothing)
value_of Above param (Set t ∷ Span x ∷ []) = if t.bits == yes_bits then span_from (x.lo +ℤ pos 1) B
    else (if t.bits == no_bits then span_from (neg_ℤ B) x.hi else Nothing)
value_of Copy param (x ∷ []) = x
-- no where they share no point, yes where each leaves one point, which is then the same
value_of Alike param (x ∷ y ∷ []) = if is_contradiction (merge_of x y) then elements_from no_bits
    else (if is_single x && is_single y then elements_from yes_bits else Nothing)
value_of Apart param (Set t ∷ x ∷ y ∷ []) = if t.bits == no_bits then others_of x y else Nothing
value_of Switch param (Set t ∷ x ∷ []) = if t.bits == yes_bits then x else Nothing
value_of Not param (x ∷ []) = truth_of (λ a b y. is_not a y) x x
value_of And param (x ∷ y ∷ []) = truth_of is_and x y
value_of AndBack param (z ∷ y ∷ []) = truth_of (λ z y x. is_and x y z) z y
value_of Or param (x ∷ y ∷ []) = truth_of is_or x y
value_of OrBack param (z ∷ y ∷ []) = truth_of (λ z y x. is_or x y z) z y
value_of Image (Rows m) (Set x ∷ []) = image_of m x
value_of Coimage (Rows m) (Set y ∷ []) = coimage_of m y
value_of rule param args = Nothing
