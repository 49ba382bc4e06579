-- Of single points the kit's rules answer those that belong to them.
use Rattle.std.specs.Prelude.{◌≡◌, ℕ, ◌<◌, ℤ, Bool, true, false, List, [], ◌∷◌, if◌then◌else◌}
use Rattle.std.proofs.Common.{refl, sym, ◌∙◌}
use Rattle.prop_intervals.specs.Spans.{product_of}
use Rattle.prop_intervals.specs.laws.Relations.{IsInRange}
use Rattle.prop_lattice.specs.Points.{Point, Number, Element, Holds, IsPointOf}
use Rattle.prop_lattice.specs.declared.elements.Elements as sets
use Rattle.prop_lattice.specs.declared.info.Info.{Info}
use Rattle.prop_lattice.specs.declared.info.Info.TheVariants.{Nothing, Span, Set}
use Rattle.prop_lattice.specs.declared.info.Kind.TheVariants as kinds
use Rattle.prop_lattice.specs.declared.span.Span as spans
use Rattle.prop_procedures.specs.declared.shape.Kinded.{Kinded}
use Rattle.prop_procedures.specs.declared.shape.Need.TheVariants as needs
use Rattle.prop_procedures.specs.declared.shape.Param.{Param}
use Rattle.prop_procedures.specs.declared.shape.Param.TheVariants.{Plain, Scale, Rows}
use Rattle.prop_procedures.specs.declared.shape.Shape.{Shape}
use Rattle.prop_procedures.specs.declared.shape.Shape.TheVariants as shapes
use Rattle.prop_procedures.specs.laws.Admitted.{may_be_given}
use Rattle.prop_procedures.specs.Rules.{is_scale}
use Rattle.prop_procedures.specs.inner.Places.{Admits, AreSides}
use Rattle.prop_procedures.specs.inner.Places.{AreOf}
use Rattle.prop_sets.specs.Truth.{IsNot, IsAnd, IsOr}
use Rattle.prop_sets.specs.laws.TruthLaws.{not_just, and_just, and_back_just, or_just, or_back_just}
use Rattle.prop_arith.specs.inner.Compared.{is_just}
use Rattle.prop_arith.specs.Points.{Related}
use Rattle.prop_arith.specs.Values.{value_of}
use Rattle.prop_arith.specs.declared.kit.Kit.TheVariants.{Add, Sub, Mul, Div, Square, Root, Less, Below, Above, Copy}
use Rattle.prop_arith.specs.declared.kit.Kit.TheVariants.{Alike, Apart, Switch, Not, And, AndBack, Or, OrBack, Image}
use Rattle.prop_arith.specs.declared.kit.Kit.TheVariants.{Coimage}
use Rattle.prop_arith.specs.laws.NumberLaws.{at_least_one}
use Rattle.prop_intervals.specs.Comparisons.{yes_bits}
use Rattle.prop_hall.specs.laws.HullLaws.{never}
use Rattle.prop_points.specs.Kit.{KitIsExact}
use Rattle.prop_points.specs.Singles.{IsSingle, AreSingle}
use Rattle.prop_points.proofs.Arguments.{number_in, element_in, number_out, element_out, one_in, two_in}
use Rattle.prop_points.proofs.Numbers.{sum_exact, difference_exact, product_exact, square_exact, root_exact}
use Rattle.prop_points.proofs.Numbers.{less_exact, below_exact, above_exact}
use Rattle.prop_points.proofs.Singles.{single_only}
use Rattle.prop_points.proofs.Truths.{one_truth_exact, two_truths_exact, image_exact, coimage_exact}
use Rattle.prop_points.proofs.Truths.{comparer_exact, yes_tested}

-- ---- by the shapes

module _ (any : Shape → Kinded) (value : List Info → Info) (related : List Point → Point → Type 0) where
  -- the answer tells of a point
  abbrev pub Tells : List Info → List Point → Point → Type 0
  Tells args points point = Holds (value args) point → related points point

  pub one_number : ((a : spans.Span) (x y : ℤ) → IsInRange y → IsSingle (Span a) (Number x)
      → Tells (Span a ∷ []) (Number x ∷ []) (Number y)) → (args : List Info) (points : List Point) (point : Point)
      → AreOf any (shapes.Span ∷ []) args → AreSingle args points → IsPointOf kinds.Span 0 point
      → Tells args points point
  one_number h args points point o e p =
      one_in any (λ infos ps. Tells infos ps point) shapes.Span args points o e (λ a q k d.
      number_in 0 a q (λ b r. Tells (b ∷ []) (r ∷ []) point) k d (λ s x d.
      number_out 0 point (λ r. Tells (Span s ∷ []) (Number x ∷ []) r) p (λ y i. h s x y i d)))

  pub two_numbers : ((a b : spans.Span) (x y z : ℤ) → IsInRange z → IsSingle (Span a) (Number x)
      → IsSingle (Span b) (Number y)
      → Tells (Span a ∷ Span b ∷ []) (Number x ∷ Number y ∷ []) (Number z))
      → (args : List Info) (points : List Point) (point : Point) → AreOf any (shapes.Span ∷ shapes.Span ∷ []) args
      → AreSingle args points → IsPointOf kinds.Span 0 point → Tells args points point
  two_numbers h args points point o e p =
      two_in any (λ infos ps. Tells infos ps point) shapes.Span shapes.Span args points o e (λ a b q r k l d f.
      number_in 0 a q (λ c s. Tells (c ∷ b ∷ []) (s ∷ r ∷ []) point) k d (λ s x d.
      number_in 0 b r (λ c t. Tells (Span s ∷ c ∷ []) (Number x ∷ t ∷ []) point) l f (λ t y f.
      number_out 0 point (λ u. Tells (Span s ∷ Span t ∷ []) (Number x ∷ Number y ∷ []) u) p
      (λ z i. h s t x y z i d f))))

  pub numbers_to_truth : ((a b : spans.Span) (x y : ℤ) (t : ℕ) → IsSingle (Span a) (Number x)
      → IsSingle (Span b) (Number y) → Tells (Span a ∷ Span b ∷ []) (Number x ∷ Number y ∷ []) (Element t))
      → (args : List Info) (points : List Point) (point : Point) → AreOf any (shapes.Span ∷ shapes.Span ∷ []) args
      → AreSingle args points → IsPointOf (kinds.Set 0) 2 point → Tells args points point
  numbers_to_truth h args points point o e p =
      two_in any (λ infos ps. Tells infos ps point) shapes.Span shapes.Span args points o e (λ a b q r k l d f.
      number_in 0 a q (λ c s. Tells (c ∷ b ∷ []) (s ∷ r ∷ []) point) k d (λ s x d.
      number_in 0 b r (λ c t. Tells (Span s ∷ c ∷ []) (Number x ∷ t ∷ []) point) l f (λ t y f.
      element_out 0 2 point (λ u. Tells (Span s ∷ Span t ∷ []) (Number x ∷ Number y ∷ []) u) p
      (λ z m. h s t x y z d f))))

  pub truth_and_number : ((a : sets.Elements) (b : spans.Span) (i : ℕ) (x y : ℤ) → i < 2
      → IsSingle (Set a) (Element i) → IsSingle (Span b) (Number x)
      → Tells (Set a ∷ Span b ∷ []) (Element i ∷ Number x ∷ []) (Number y))
      → (args : List Info) (points : List Point) (point : Point) → AreOf any (shapes.Truth ∷ shapes.Span ∷ []) args
      → AreSingle args points → IsPointOf kinds.Span 0 point → Tells args points point
  truth_and_number h args points point o e p =
      two_in any (λ infos ps. Tells infos ps point) shapes.Truth shapes.Span args points o e (λ a b q r k l d f.
      element_in 0 2 a q (λ c s. Tells (c ∷ b ∷ []) (s ∷ r ∷ []) point) k d (λ s i m d.
      number_in 0 b r (λ c t. Tells (Set s ∷ c ∷ []) (Element i ∷ t ∷ []) point) l f (λ t x f.
      number_out 0 point (λ u. Tells (Set s ∷ Span t ∷ []) (Element i ∷ Number x ∷ []) u) p
      (λ y n. h s t i x y m d f))))

  pub one_truth : ((a : Info) (i y : ℕ) → y < 2 → IsSingle a (Element i)
      → Tells (a ∷ []) (Element i ∷ []) (Element y)) → (args : List Info) (points : List Point) (point : Point)
      → AreOf any (shapes.Truth ∷ []) args → AreSingle args points → IsPointOf (kinds.Set 0) 2 point
      → Tells args points point
  one_truth h args points point o e p =
      one_in any (λ infos ps. Tells infos ps point) shapes.Truth args points o e (λ a q k d.
      element_in 0 2 a q (λ b r. Tells (b ∷ []) (r ∷ []) point) k d (λ s i m d.
      element_out 0 2 point (λ r. Tells (Set s ∷ []) (Element i ∷ []) r) p (λ y l. h (Set s) i y l d)))

  pub two_truths : ((a b : Info) (i j z : ℕ) → z < 2 → IsSingle a (Element i) → IsSingle b (Element j)
      → Tells (a ∷ b ∷ []) (Element i ∷ Element j ∷ []) (Element z))
      → (args : List Info) (points : List Point) (point : Point) → AreOf any (shapes.Truth ∷ shapes.Truth ∷ []) args
      → AreSingle args points → IsPointOf (kinds.Set 0) 2 point → Tells args points point
  two_truths h args points point o e p =
      two_in any (λ infos ps. Tells infos ps point) shapes.Truth shapes.Truth args points o e (λ a b q r k l d f.
      element_in 0 2 a q (λ c s. Tells (c ∷ b ∷ []) (s ∷ r ∷ []) point) k d (λ s i m d.
      element_in 0 2 b r (λ c t. Tells (Set s ∷ c ∷ []) (Element i ∷ t ∷ []) point) l f (λ t j n f.
      element_out 0 2 point (λ u. Tells (Set s ∷ Set t ∷ []) (Element i ∷ Element j ∷ []) u) p
      (λ z l. h (Set s) (Set t) i j z l d f))))

  pub same_kinds : ((a b : Info) (p q : Point) (t : ℕ) → IsSingle a p → IsSingle b q
      → Tells (a ∷ b ∷ []) (p ∷ q ∷ []) (Element t)) → (args : List Info) (points : List Point) (point : Point)
      → AreOf any (shapes.Any 0 ∷ shapes.Any 0 ∷ []) args → AreSingle args points
      → IsPointOf (kinds.Set 0) 2 point → Tells args points point
  same_kinds h args points point o e p =
      two_in any (λ infos ps. Tells infos ps point) (shapes.Any 0) (shapes.Any 0) args points o e
      (λ a b q r k l d f.
      element_out 0 2 point (λ u. Tells (a ∷ b ∷ []) (q ∷ r ∷ []) u) p (λ t m. h a b q r t d f))

-- ---- the rules

copied : (any : Shape → Kinded) (param : Param) (args : List Info) (points : List Point) (point : Point)
    → AreOf any (shapes.Any 0 ∷ []) args → AreSingle args points → Holds (value_of Copy param args) point
    → Related Copy param points point
copied any param args points point o e =
    one_in any (λ infos ps. Holds (value_of Copy param infos) point → Related Copy param ps point) (shapes.Any 0)
    args points o e (λ a p k d h. single_only a p point d h)

switched : (any : Shape → Kinded) (param : Param) (args : List Info) (points : List Point) (point : Point)
    → AreOf any (shapes.Truth ∷ shapes.Any 0 ∷ []) args → AreSingle args points
    → Holds (value_of Switch param args) point → Related Switch param points point
switched any param args points point o e =
    two_in any (λ infos ps. Holds (value_of Switch param infos) point → Related Switch param ps point)
    shapes.Truth (shapes.Any 0) args points o e (λ a b p q k l d f.
    element_in 0 2 a p (λ c s. Holds (value_of Switch param (c ∷ b ∷ [])) point
    → Related Switch param (s ∷ q ∷ []) point) k d (λ s i m d h z.
    passed s i b q m d f z (is_just yes_bits (Set s)) refl h))
  where
    passed : (s : sets.Elements) (i : ℕ) (b : Info) (q : Point) → i < 2 → IsSingle (Set s) (Element i)
        → IsSingle b q → i ≡ 0 → (t : Bool) → is_just yes_bits (Set s) ≡ t
        → Holds (if t then b else Nothing) point → point ≡ q
    passed s i b q m d f z true g h = single_only b q point f h
    passed s i b q m d f z false g h = absurd (never (sym g ∙ yes_tested s i m d z))

multiplied : (any : Shape → Kinded) (param : Param) → Admits needs.Scale param → (args : List Info)
    (points : List Point) (point : Point) → AreOf any (shapes.Span ∷ shapes.Span ∷ []) args → AreSingle args points
    → IsPointOf kinds.Span 0 point → Holds (value_of Mul param args) point → Related Mul param points point
multiplied any (Scale k) s =
    two_numbers any (value_of Mul (Scale k)) (Related Mul (Scale k)) (λ a b x y z i d f h.
    by a b x y z d f (is_scale k) s h)
  where
    by : (a b : spans.Span) (x y z : ℤ) → IsSingle (Span a) (Number x) → IsSingle (Span b) (Number y)
        → (t : Bool) → t ≡ true → Holds (if t then product_of a b k else Nothing) (Number z)
        → Related Mul (Scale k) (Number x ∷ Number y ∷ []) (Number z)
    by a b x y z d f true e h = product_exact k (at_least_one k s) a b x y z d f h
    by a b x y z d f false e h = absurd (never e)
multiplied any Plain s = absurd s
multiplied any (Rows m) s = absurd s

imaged : (any : Shape → Kinded) (param : Param) → Admits needs.Rows param → AreSides any param → (args : List Info)
    (points : List Point) (point : Point) → AreOf any (shapes.From ∷ []) args → AreSingle args points
    → IsPointOf (any shapes.To).kind (any shapes.To).size point → Holds (value_of Image param args) point
    → Related Image param points point
imaged any (Rows m) s sides args points point o e p =
    one_in any (λ infos ps. Holds (value_of Image (Rows m) infos) point → Related Image (Rows m) ps point)
    shapes.From args points o e (λ a q k d.
    element_in m.from.domain m.from.size a q
    (λ b r. Holds (value_of Image (Rows m) (b ∷ [])) point → Related Image (Rows m) (r ∷ []) point)
    (rw sides.0 at k) d (λ s i l d.
    element_out m.to.domain m.to.size point
    (λ r. Holds (value_of Image (Rows m) (Set s ∷ [])) r → Related Image (Rows m) (Element i ∷ []) r)
    (rw sides.1 at p) (λ j l h. image_exact m s i j d h)))
imaged any Plain s sides args points point o e p = absurd s
imaged any (Scale k) s sides args points point o e p = absurd s

coimaged : (any : Shape → Kinded) (param : Param) → Admits needs.Rows param → AreSides any param
    → (args : List Info) (points : List Point) (point : Point) → AreOf any (shapes.To ∷ []) args
    → AreSingle args points → IsPointOf (any shapes.From).kind (any shapes.From).size point
    → Holds (value_of Coimage param args) point → Related Coimage param points point
coimaged any (Rows m) s sides args points point o e p =
    one_in any (λ infos ps. Holds (value_of Coimage (Rows m) infos) point → Related Coimage (Rows m) ps point)
    shapes.To args points o e (λ a q k d.
    element_in m.to.domain m.to.size a q
    (λ b r. Holds (value_of Coimage (Rows m) (b ∷ [])) point → Related Coimage (Rows m) (r ∷ []) point)
    (rw sides.1 at k) d (λ s j l d.
    element_out m.from.domain m.from.size point
    (λ r. Holds (value_of Coimage (Rows m) (Set s ∷ [])) r → Related Coimage (Rows m) (Element j ∷ []) r)
    (rw sides.0 at p) (λ i l h. coimage_exact m s j i d h)))
coimaged any Plain s sides args points point o e p = absurd s
coimaged any (Scale k) s sides args points point o e p = absurd s

pub kit_is_exact : KitIsExact
kit_is_exact Add ins out need f any param args points point c e p =
    two_numbers any (value_of Add param) (Related Add param) (λ a b x y z i. sum_exact a b x y z) args points point
    (rw f.0 at c.of_kinds) e (rw f.1 at p)
kit_is_exact Sub ins out need f any param args points point c e p =
    two_numbers any (value_of Sub param) (Related Sub param) (λ a b z x y i. difference_exact a b z x y) args points
    point (rw f.0 at c.of_kinds) e (rw f.1 at p)
kit_is_exact Mul ins out need f any param args points point c e p =
    multiplied any param (rw f.2 at (may_be_given need param c.admits)) args points point (rw f.0 at c.of_kinds) e
    (rw f.1 at p)
kit_is_exact Div ins out need f any param args points point c e p = λ h. tt
kit_is_exact Square ins out need f any param args points point c e p =
    one_number any (value_of Square param) (Related Square param) (λ a x y i. square_exact a x y) args points point
    (rw f.0 at c.of_kinds) e (rw f.1 at p)
kit_is_exact Root ins out need f any param args points point c e p =
    two_numbers any (value_of Root param) (Related Root param) (λ y x w u v i. root_exact y x w u v) args points point
    (rw f.0 at c.of_kinds) e (rw f.1 at p)
kit_is_exact Less ins out need f any param args points point c e p =
    numbers_to_truth any (value_of Less param) (Related Less param) less_exact args points point
    (rw f.0 at c.of_kinds) e (rw f.1 at p)
kit_is_exact Below ins out need f any param args points point c e p =
    truth_and_number any (value_of Below param) (Related Below param) below_exact args points point
    (rw f.0 at c.of_kinds) e (rw f.1 at p)
kit_is_exact Above ins out need f any param args points point c e p =
    truth_and_number any (value_of Above param) (Related Above param) above_exact args points point
    (rw f.0 at c.of_kinds) e (rw f.1 at p)
kit_is_exact Copy ins out need f any param args points point c e p =
    copied any param args points point (rw f.0 at c.of_kinds) e
kit_is_exact Alike ins out need f any param args points point c e p =
    same_kinds any (value_of Alike param) (Related Alike param) comparer_exact args points point
    (rw f.0 at c.of_kinds) e (rw f.1 at p)
kit_is_exact Apart ins out need f any param args points point c e p = λ h. tt
kit_is_exact Switch ins out need f any param args points point c e p =
    switched any param args points point (rw f.0 at c.of_kinds) e
kit_is_exact Not ins out need f any param args points point c e p =
    one_truth any (value_of Not param) (Related Not param)
    (λ x i y l d h. one_truth_exact IsNot x _ i y (not_just x) l d h) args points point
    (rw f.0 at c.of_kinds) e (rw f.1 at p)
kit_is_exact And ins out need f any param args points point c e p =
    two_truths any (value_of And param) (Related And param)
    (λ x y i j z l d g h. two_truths_exact IsAnd x y _ i j z (and_just x y) l d g h) args points point
    (rw f.0 at c.of_kinds) e (rw f.1 at p)
kit_is_exact AndBack ins out need f any param args points point c e p =
    two_truths any (value_of AndBack param) (Related AndBack param)
    (λ x y i j z l d g h. two_truths_exact (λ z y x. IsAnd x y z) x y _ i j z (and_back_just x y) l d g h)
    args points point (rw f.0 at c.of_kinds) e (rw f.1 at p)
kit_is_exact Or ins out need f any param args points point c e p =
    two_truths any (value_of Or param) (Related Or param)
    (λ x y i j z l d g h. two_truths_exact IsOr x y _ i j z (or_just x y) l d g h) args points point
    (rw f.0 at c.of_kinds) e (rw f.1 at p)
kit_is_exact OrBack ins out need f any param args points point c e p =
    two_truths any (value_of OrBack param) (Related OrBack param)
    (λ x y i j z l d g h. two_truths_exact (λ z y x. IsOr x y z) x y _ i j z (or_back_just x y) l d g h)
    args points point (rw f.0 at c.of_kinds) e (rw f.1 at p)
kit_is_exact Image ins out need f any param args points point c e p =
    imaged any param (rw f.2 at (may_be_given need param c.admits)) c.sides args points point (rw f.0 at c.of_kinds) e
    (rw f.1 at p)
kit_is_exact Coimage ins out need f any param args points point c e p =
    coimaged any param (rw f.2 at (may_be_given need param c.admits)) c.sides args points point (rw f.0 at c.of_kinds)
    e (rw f.1 at p)
