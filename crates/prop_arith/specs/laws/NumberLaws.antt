-- The laws of the functions of numbers.
use Rattle.std.specs.Prelude.{◌≡◌, ◌≢◌, ℕ, ℤ, pos, ◌≤ℤ◌, Bool, true, false, int_le, ◌&&◌}
use Rattle.std.specs.Prelude.{if◌then◌else◌, List, [], ◌∷◌, Some, None}
use Rattle.std.proofs.Common.{arith, refl, rules}
use Rattle.std.proofs.lemmas.Int.{ints}
use Rattle.prop_intervals.specs.Relations.{IsSquare}
use Rattle.prop_intervals.specs.laws.Relations.{IsInRange}
use Rattle.prop_intervals.specs.Roots.{root_of}
use Rattle.prop_intervals.specs.laws.RootLaws.{root_monotone, root_kind, root_sound}
use Rattle.prop_lattice.specs.Order.{Below}
use Rattle.prop_lattice.specs.Points.{Point, Number, Holds, IsPointOf}
use Rattle.prop_lattice.specs.Rank.{IsOf}
use Rattle.prop_lattice.specs.declared.info.Info.{Info}
use Rattle.prop_lattice.specs.declared.info.Info.TheVariants.{Nothing, Span, Set, Sym}
use Rattle.prop_lattice.specs.declared.info.Info.TheVariants.{Contradiction}
use Rattle.prop_lattice.specs.declared.info.Kind.{Kind}
use Rattle.prop_lattice.specs.declared.info.Kind.TheVariants as kinds
use Rattle.prop_lattice.specs.declared.span.Span as spans
use Rattle.prop_procedures.specs.declared.shape.Param.{Param}
use Rattle.prop_procedures.specs.declared.shape.Param.TheVariants.{Plain, Scale, Rows}
use Rattle.prop_procedures.specs.Rules.{EachBelow, EachHolds, AreClear}
use Rattle.prop_procedures.specs.Rules.{is_scale}
use Rattle.prop_arith.specs.laws.Combined.{RelatesAt, RelatesOne, RelatesTwo, at_one, at_scale}
use Rattle.prop_arith.specs.laws.Combined.{at_two, on_span, on_spans, rooter_of}
use Rattle.prop_arith.specs.laws.ArgumentLaws.{two_below, two_kind}

-- ---- scales

pub at_least_one : (k : ℤ) → is_scale k ≡ true → pos 1 ≤ℤ k
at_least_one k = by (int_le (pos 1) k) refl _
  where
    by : (s : Bool) → int_le (pos 1) k ≡ s → (t : Bool) → (s && t) ≡ true → pos 1 ≤ℤ k
    by true e t h = omega (arith, ints)
    by false e t h = absurd (cc)

-- ---- more in the arguments is more in the answer

pub scale_below : (f : ℤ → Info → Info → Info)
    → ((k : ℤ) → is_scale k ≡ true → (x y x' y' : Info) → Below x x' → Below y y'
    → x' ≢ Contradiction → y' ≢ Contradiction → Below (f k x y) (f k x' y'))
    → (param : Param) (olds news : List Info) → EachBelow olds news → AreClear news
    → Below (at_scale f param olds) (at_scale f param news)
scale_below f h Plain olds news p n = tt
scale_below f h (Rows m) olds news p n = tt
scale_below f h (Scale k) olds news p n = by (is_scale k) refl
  where
    by : (t : Bool) → is_scale k ≡ t
        → Below (if t then at_two (f k) olds else Nothing)
        (if t then at_two (f k) news else Nothing)
    by true e = two_below (f k) (h k e) olds news p n
    by false e = tt

pub span_below : (f : spans.Span → Info)
    → ((a c : spans.Span) → Below (Span a) (Span c) → Below (f a) (f c)) → (x x' : Info)
    → Below x x' → x' ≢ Contradiction → Below (on_span f x) (on_span f x')
span_below f h (Span a) (Span c) p n = h a c p
span_below f h (Span a) Contradiction p n = absurd (n refl)
span_below f h x x' p n = search rules

pub spans_below : (f : spans.Span → spans.Span → Info)
    → ((a b c d : spans.Span) → Below (Span a) (Span c) → Below (Span b) (Span d)
    → Below (f a b) (f c d)) → (x y x' y' : Info) → Below x x' → Below y y' → x' ≢ Contradiction
    → y' ≢ Contradiction → Below (on_spans f x y) (on_spans f x' y')
spans_below f h (Span a) (Span b) (Span c) (Span d) p q n m = h a b c d p q
spans_below f h (Span a) (Span b) Contradiction y' p q n m = absurd (n refl)
spans_below f h (Span a) (Span b) (Span c) Contradiction p q n m = absurd (m refl)
spans_below f h x y x' y' p q n m = search rules

-- ---- answers of their kind

pub scale_kind : (kind : Kind) (size : ℕ) (f : ℤ → Info → Info → Info)
    → ((k : ℤ) (x y : Info) → IsOf kind size (f k x y)) → (param : Param) (args : List Info)
    → IsOf kind size (at_scale f param args)
scale_kind kind size f h Plain args = search rules
scale_kind kind size f h (Rows m) args = search rules
scale_kind kind size f h (Scale k) args = by (is_scale k)
  where
    by : (t : Bool) → IsOf kind size (if t then at_two (f k) args else Nothing)
    by true = two_kind kind size (f k) (h k) args
    by false = search rules

pub span_kind : (f : spans.Span → Info) → ((a : spans.Span) → IsOf kinds.Span 0 (f a)) → (x : Info)
    → IsOf kinds.Span 0 (on_span f x)
span_kind f h (Span a) = h a
span_kind f h x = tt

pub spans_kind : (kind : Kind) (size : ℕ) (f : spans.Span → spans.Span → Info)
    → ((a b : spans.Span) → IsOf kind size (f a b)) → (x y : Info) → IsOf kind size (on_spans f x y)
spans_kind kind size f h (Span a) (Span b) = h a b
spans_kind kind size f h x y = search rules

-- ---- answers that hold what belongs to the arguments

pub one_sound : (f : spans.Span → Info) (related : ℤ → ℤ → Type 0)
    → ((a : spans.Span) (x y : ℤ) → Holds (Span a) (Number x) → IsInRange y → related x y
    → Holds (f a) (Number y)) → (args : List Info) (points : List Point) (point : Point)
    → IsPointOf kinds.Span 0 point → EachHolds args points → RelatesOne related points point
    → Holds (at_one (on_span f) args) point
one_sound f related h (Span a ∷ []) (Number x ∷ []) (Number y) k e r = h a x y e.0 k r
one_sound f related h args points point k e r = search rules

pub two_sound : (f : spans.Span → spans.Span → Info) (related : ℤ → ℤ → ℤ → Type 0)
    → ((a b : spans.Span) (x y z : ℤ) → Holds (Span a) (Number x) → Holds (Span b) (Number y)
    → IsInRange z → related x y z → Holds (f a b) (Number z))
    → (args : List Info) (points : List Point) (point : Point) → IsPointOf kinds.Span 0 point
    → EachHolds args points → RelatesTwo related points point
    → Holds (at_two (on_spans f) args) point
two_sound f related h (Span a ∷ Span b ∷ []) (Number x ∷ Number y ∷ []) (Number z) k e r =
    h a b x y z e.0 e.1.0 k r
two_sound f related h args points point k e r = search rules

pub scale_sound : (f : ℤ → spans.Span → spans.Span → Info) (related : ℤ → ℤ → ℤ → ℤ → Type 0)
    → ((k : ℤ) → is_scale k ≡ true → (a b : spans.Span) (x y z : ℤ) → Holds (Span a) (Number x)
    → Holds (Span b) (Number y) → IsInRange z → related k x y z → Holds (f k a b) (Number z))
    → (param : Param) (args : List Info) (points : List Point) (point : Point)
    → IsPointOf kinds.Span 0 point → EachHolds args points → RelatesAt related param points point
    → Holds (at_scale (λ k. on_spans (f k)) param args) point
scale_sound f related h Plain args points point p e r = tt
scale_sound f related h (Rows m) args points point p e r = tt
scale_sound f related h (Scale k) args points point p e r = by (is_scale k) refl
  where
    by : (t : Bool) → is_scale k ≡ t
        → Holds (if t then at_two (on_spans (f k)) args else Nothing) point
    by true s = two_sound (f k) (related k) (h k s) args points point p e r
    by false s = tt

-- ---- roots

-- nothing is known of the root
wide_below : (y y' : spans.Span) → Below (Span y) (Span y')
    → Below (root_of y None) (root_of y' None)
wide_below y y' p = root_monotone y y' None None p (omega (arith, ints)) (omega (arith, ints))

pub rooter_below : (y x y' x' : Info) → Below y y' → Below x x' → y' ≢ Contradiction
    → x' ≢ Contradiction → Below (rooter_of y x) (rooter_of y' x')
rooter_below (Span y) x Contradiction x' p q n m = absurd (n refl)
rooter_below (Span y) x (Span y') Contradiction p q n m = absurd (m refl)
rooter_below (Span y) (Span x) (Span y') (Span x') p q n m =
    root_monotone y y' (Some x) (Some x') p q.0 q.1
rooter_below (Span y) Nothing (Span y') (Span x') p q n m =
    root_monotone y y' None (Some x') p x'.above x'.below
rooter_below (Span y) Nothing (Span y') Nothing p q n m = wide_below y y' p
rooter_below (Span y) Nothing (Span y') (Set s) p q n m = wide_below y y' p
rooter_below (Span y) Nothing (Span y') (Sym s) p q n m = wide_below y y' p
rooter_below (Span y) (Set s) (Span y') (Set t) p q n m = wide_below y y' p
rooter_below (Span y) (Sym s) (Span y') (Sym t) p q n m = wide_below y y' p
rooter_below y x y' x' p q n m = search rules

pub rooter_kind : (y x : Info) → IsOf kinds.Span 0 (rooter_of y x)
rooter_kind (Span y) (Span x) = root_kind 0 y (Some x)
rooter_kind (Span y) Nothing = root_kind 0 y None
rooter_kind (Span y) (Set s) = root_kind 0 y None
rooter_kind (Span y) (Sym s) = root_kind 0 y None
rooter_kind (Span y) Contradiction = root_kind 0 y None
rooter_kind y x = tt

pub rooter_sound : (args : List Info) (points : List Point) (point : Point)
    → IsPointOf kinds.Span 0 point → EachHolds args points
    → RelatesTwo (λ y x v. (v ≡ x) × IsSquare x y) points point
    → Holds (at_two rooter_of args) point
rooter_sound (Span y ∷ Span x ∷ []) (Number w ∷ Number u ∷ []) (Number v) k e r =
    root_sound y (Some x) w v e.0 (rw r.0 e.1.0.0) (rw r.0 e.1.0.1) (rw r.0 r.1)
rooter_sound (Span y ∷ Nothing ∷ []) (Number w ∷ Number u ∷ []) (Number v) k e r =
    root_sound y None w v e.0 k.0 k.1 (rw r.0 r.1)
rooter_sound args points point k e r = search rules
