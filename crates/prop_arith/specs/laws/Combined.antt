-- The tables of the kit by functions of functions, of which the laws speak.
use Rattle.std.specs.Prelude.{◌≡◌, ◌≢◌, ◌↔◌, ℕ, ℤ, Bool, List, [], ◌∷◌, Some, None, if◌then◌else◌}
use Rattle.prop_intervals.specs.Comparisons.{yes_bits, no_bits}
use Rattle.prop_intervals.specs.inner.Parts.{less_of, below_of, above_of}
use Rattle.prop_intervals.specs.Relations.{IsSum, IsProduct, IsSquare, SaysLess}
use Rattle.prop_intervals.specs.Roots.{root_of}
use Rattle.prop_intervals.specs.Spans.{sum_of, difference_of, product_of, quotient_of}
use Rattle.prop_intervals.specs.inner.Parts.{square_of}
use Rattle.prop_lattice.specs.Ends.{elements_from}
use Rattle.prop_lattice.specs.Points.{Point, Number, Element}
use Rattle.prop_lattice.specs.declared.elements.Elements as sets
use Rattle.prop_lattice.specs.declared.info.Info.{Info}
use Rattle.prop_lattice.specs.declared.info.Info.TheVariants.{Nothing, Span, Set}
use Rattle.prop_lattice.specs.declared.span.Span as spans
use Rattle.prop_procedures.specs.Rules.{is_scale}
use Rattle.prop_procedures.specs.declared.shape.Param.{Param}
use Rattle.prop_procedures.specs.declared.shape.Param.TheVariants.{Scale, Rows}
use Rattle.prop_sets.specs.Images.{image_of, coimage_of}
use Rattle.prop_sets.specs.Relation.{Relation, HasPair}
use Rattle.prop_sets.specs.Truth.{IsNot, IsAnd, IsOr}
use Rattle.prop_sets.specs.Truth.{and_of, and_back_of, or_of, or_back_of, not_of}
use Rattle.prop_arith.specs.Comparing.{others_of}
use Rattle.prop_arith.specs.inner.Compared.{is_just}
use Rattle.prop_arith.specs.inner.Compared.{comparer_of}
use Rattle.prop_arith.specs.declared.kit.Kit as kits
use Rattle.prop_arith.specs.declared.kit.Kit.TheVariants.{Add, Sub, Mul, Div, Square, Root, Less}
use Rattle.prop_arith.specs.declared.kit.Kit.TheVariants.{Below, Above, Copy, Alike, Apart, Switch}
use Rattle.prop_arith.specs.declared.kit.Kit.TheVariants.{Not, And, AndBack, Or, OrBack, Image}
use Rattle.prop_arith.specs.declared.kit.Kit.TheVariants.{Coimage}

-- ---- functions of informations

-- a function of a span, nothing where the information is none
abbrev pub on_span : (spans.Span → Info) → Info → Info
on_span f (Span a) = f a
on_span f a = Nothing

-- a function of two spans, nothing where an information is none
abbrev pub on_spans : (spans.Span → spans.Span → Info) → Info → Info → Info
on_spans f (Span a) (Span b) = f a b
on_spans f a b = Nothing

-- a function of a truth and a span, nothing where an information is none
abbrev pub on_truth : (sets.Elements → spans.Span → Info) → Info → Info → Info
on_truth f (Set t) (Span a) = f t a
on_truth f t a = Nothing

-- a function of a set, nothing where the information is none
abbrev pub on_set : (sets.Elements → Info) → Info → Info
on_set f (Set s) = f s
on_set f a = Nothing

-- x where y is x * x; where nothing is known of x it may be any number
abbrev pub rooter_of : Info → Info → Info
rooter_of (Span y) (Span x) = root_of y (Some x)
rooter_of (Span y) x = root_of y None
rooter_of y x = Nothing

-- `no` of what differs, else `yes` of what is single, else nothing
abbrev pub told_alike : Bool → Bool → Info
told_alike differs single =
    if differs then elements_from no_bits else (if single then elements_from yes_bits else Nothing)

-- y where it is another than x, as t says; nothing where t isn't just `no`
abbrev pub parter_of : Info → Info → Info → Info
parter_of t x y = if is_just no_bits t then others_of x y else Nothing

-- x where t is `yes`, and nothing where that isn't known
abbrev pub passer_of : Info → Info → Info
passer_of t x = if is_just yes_bits t then x else Nothing

-- ---- at lists of arguments

-- the value at one argument, nothing at more or none
abbrev pub at_one : (Info → Info) → List Info → Info
at_one f (x ∷ []) = f x
at_one f args = Nothing

-- the value at two arguments, nothing at more or fewer
abbrev pub at_two : (Info → Info → Info) → List Info → Info
at_two f (x ∷ y ∷ []) = f x y
at_two f args = Nothing

-- the value at three arguments, nothing at more or fewer
abbrev pub at_three : (Info → Info → Info → Info) → List Info → Info
at_three f (x ∷ y ∷ z ∷ []) = f x y z
at_three f args = Nothing

-- the value at a scale and two arguments, nothing at what is no scale
abbrev pub at_scale : (ℤ → Info → Info → Info) → Param → List Info → Info
at_scale f (Scale k) args = if is_scale k then at_two (f k) args else Nothing
at_scale f param args = Nothing

-- the value at a relation and one argument, nothing at what is no relation
abbrev pub at_rows : (Relation → Info → Info) → Param → List Info → Info
at_rows f (Rows m) args = at_one (f m) args
at_rows f param args = Nothing

-- what a rule answers
abbrev pub combined_of : kits.Kit → Param → List Info → Info
combined_of Add param args = at_two (on_spans sum_of) args
combined_of Sub param args = at_two (on_spans difference_of) args
combined_of Mul param args = at_scale (λ k. on_spans (λ x y. product_of x y k)) param args
combined_of Div param args = at_scale (λ k. on_spans (λ z y. quotient_of z y k)) param args
combined_of Square param args = at_one (on_span square_of) args
combined_of Root param args = at_two rooter_of args
combined_of Less param args = at_two (on_spans less_of) args
combined_of Below param args = at_two (on_truth below_of) args
combined_of Above param args = at_two (on_truth above_of) args
combined_of Copy param args = at_one (λ x. x) args
combined_of Alike param args = at_two comparer_of args
combined_of Apart param args = at_three parter_of args
combined_of Switch param args = at_two passer_of args
combined_of Not param args = at_one not_of args
combined_of And param args = at_two and_of args
combined_of AndBack param args = at_two and_back_of args
combined_of Or param args = at_two or_of args
combined_of OrBack param args = at_two or_back_of args
combined_of Image param args = at_rows (λ m. on_set (image_of m)) param args
combined_of Coimage param args = at_rows (λ m. on_set (coimage_of m)) param args

-- ---- points that belong together

-- a number and one that belongs to it
abbrev pub RelatesOne : (ℤ → ℤ → Type 0) → List Point → Point → Type 0
RelatesOne related (Number x ∷ []) (Number y) = related x y
RelatesOne related points point = ⊥

-- two numbers and one that belongs to them
abbrev pub RelatesTwo : (ℤ → ℤ → ℤ → Type 0) → List Point → Point → Type 0
RelatesTwo related (Number x ∷ Number y ∷ []) (Number z) = related x y z
RelatesTwo related points point = ⊥

-- the same at a scale
abbrev pub RelatesAt : (ℤ → ℤ → ℤ → ℤ → Type 0) → Param → List Point → Point → Type 0
RelatesAt related (Scale k) points point = RelatesTwo (related k) points point
RelatesAt related param points point = ⊥

-- two numbers and a truth of them
abbrev pub RelatesToTruth : (ℤ → ℤ → ℕ → Type 0) → List Point → Point → Type 0
RelatesToTruth related (Number x ∷ Number y ∷ []) (Element t) = related x y t
RelatesToTruth related points point = ⊥

-- a truth, a number, and another of which the truth says something
abbrev pub RelatesByTruth : (ℕ → ℤ → ℤ → Type 0) → List Point → Point → Type 0
RelatesByTruth related (Element t ∷ Number x ∷ []) (Number y) = related t x y
RelatesByTruth related points point = ⊥

-- an element and one that belongs to it
abbrev pub RelatesElement : (ℕ → ℕ → Type 0) → List Point → Point → Type 0
RelatesElement related (Element x ∷ []) (Element y) = related x y
RelatesElement related points point = ⊥

-- two elements and one that belongs to them
abbrev pub RelatesElements : (ℕ → ℕ → ℕ → Type 0) → List Point → Point → Type 0
RelatesElements related (Element x ∷ Element y ∷ []) (Element z) = related x y z
RelatesElements related points point = ⊥

-- an element and one that belongs to it by a relation
abbrev pub RelatesByRows : (Relation → ℕ → ℕ → Type 0) → Param → List Point → Point → Type 0
RelatesByRows related (Rows m) points point = RelatesElement (related m) points point
RelatesByRows related param points point = ⊥

-- a point and the same point
abbrev pub RelatesSame : List Point → Point → Type 0
RelatesSame (x ∷ []) y = y ≡ x
RelatesSame points point = ⊥

-- two points and whether they are the same
abbrev pub RelatesAlike : List Point → Point → Type 0
RelatesAlike (x ∷ y ∷ []) (Element t) = (t ≡ 0) ↔ (x ≡ y)
RelatesAlike points point = ⊥

-- a truth, two points and the second of them, which is another than the first where the truth is
-- `no`
abbrev pub RelatesApart : List Point → Point → Type 0
RelatesApart (Element t ∷ x ∷ y ∷ []) z = (z ≡ y) × (t ≡ 1 → z ≢ x)
RelatesApart points point = ⊥

-- a truth, a point and another, the same where the truth is `yes`
abbrev pub RelatesWhere : List Point → Point → Type 0
RelatesWhere (Element t ∷ x ∷ []) y = t ≡ 0 → y ≡ x
RelatesWhere points point = ⊥

-- the points that belong together at a rule
abbrev pub Combined : kits.Kit → Param → List Point → Point → Type 0
Combined Add param points point = RelatesTwo IsSum points point
Combined Sub param points point = RelatesTwo (λ z x y. IsSum x y z) points point
Combined Mul param points point = RelatesAt IsProduct param points point
Combined Div param points point = RelatesAt (λ k z y x. IsProduct k x y z) param points point
Combined Square param points point = RelatesOne IsSquare points point
Combined Root param points point = RelatesTwo (λ y x v. (v ≡ x) × IsSquare x y) points point
Combined Less param points point = RelatesToTruth SaysLess points point
Combined Below param points point = RelatesByTruth (λ t y x. SaysLess x y t) points point
Combined Above param points point = RelatesByTruth (λ t x y. SaysLess x y t) points point
Combined Copy param points point = RelatesSame points point
Combined Alike param points point = RelatesAlike points point
Combined Apart param points point = RelatesApart points point
Combined Switch param points point = RelatesWhere points point
Combined Not param points point = RelatesElement IsNot points point
Combined And param points point = RelatesElements IsAnd points point
Combined AndBack param points point = RelatesElements (λ z y x. IsAnd x y z) points point
Combined Or param points point = RelatesElements IsOr points point
Combined OrBack param points point = RelatesElements (λ z y x. IsOr x y z) points point
Combined Image param points point = RelatesByRows HasPair param points point
Combined Coimage param points point = RelatesByRows (λ m j i. HasPair m i j) param points point
