-- The laws of what several informations say together.
use Rattle.std.specs.Prelude.{◌≡◌, ℕ, ◌==◌, Bool, true, false, if◌then◌else◌, List, [], ◌∷◌}
use Rattle.std.specs.Prelude.{bit_and}
use Rattle.std.specs.Int.{int_max, int_min}
use Rattle.std.specs.List.{AllByRecursion as Each, AllZip}
use Rattle.std.proofs.Common.{arith, refl, rules, sym, ◌∙◌, eq-eqb}
use Rattle.std.proofs.lemmas.Int.{ints, clamps}
use Rattle.std.proofs.lemmas.Nat.{and_le_l}
use Rattle.std.proofs.lemmas.Nat.Bits.{bit_at_and}
use Rattle.prop_intervals.specs.laws.ClipLaws.{span_from_holds, span_from_of_span}
use Rattle.prop_lattice.specs.Order.{Below, merge_of}
use Rattle.prop_lattice.specs.Points.{Point, Number, Element, Symbol, Holds}
use Rattle.prop_lattice.specs.Rank.{IsOf}
use Rattle.prop_lattice.specs.declared.info.Info.{Info}
use Rattle.prop_lattice.specs.declared.info.Info.TheVariants.{Nothing, Span, Set, Sym}
use Rattle.prop_lattice.specs.declared.info.Info.TheVariants.{Contradiction}
use Rattle.prop_lattice.specs.declared.info.Kind.{Kind}
use Rattle.prop_lattice.specs.declared.info.Kind.TheVariants as kinds
use Rattle.prop_lattice.specs.laws.OrderLaws.{info_laws}
use Rattle.prop_lattice.specs.laws.PartLaws.{part_left}
use Rattle.prop_sets.specs.laws.NarrowestLaws.{elements_hold, elements_of_kind}
use Rattle.prop_hall.specs.Excluding.{merge_all}
use Rattle.prop_hall.specs.laws.HullLaws.{never}
use Rattle.prop_hall.specs.laws.SelectionLaws.{each_weaker}

-- ---- of two

merge_below : (a b a' b' : Info) → Below a a' → Below b b' → Below (merge_of a b) (merge_of a' b')
merge_below a b a' b' p q =
    let above = info_laws.least_above a' b' in
    (info_laws.least_above a b).least (merge_of a' b')
    (info_laws.transitive a a' (merge_of a' b') p above.above_first)
    (info_laws.transitive b b' (merge_of a' b') q above.above_second)

-- what two informations hold, they hold together
merge_holds : (a b : Info) (p : Point) → Holds a p → Holds b p → Holds (merge_of a b) p
merge_holds Nothing b p h k = k
merge_holds (Span a) Nothing p h k = h
merge_holds (Set a) Nothing p h k = h
merge_holds (Sym a) Nothing p h k = h
merge_holds Contradiction Nothing p h k = h
merge_holds (Span a) (Span b) (Number v) h k =
    span_from_holds (int_max a.lo b.lo) (int_min a.hi b.hi) v
    (omega (arith, ints, clamps, h.0, k.0)) (omega (arith, ints, clamps, h.1, k.1))
    (omega (arith, ints, clamps, a.above, b.above))
    (omega (arith, ints, clamps, a.below, b.below))
merge_holds (Set a) (Set b) (Element i) h k =
    elements_hold (bit_and a.bits b.bits) (omega (arith, and_le_l a.bits b.bits, a.fits)) i
    (omega (arith, bit_at_and a.bits b.bits i, h, k))
merge_holds (Sym a) (Sym b) (Symbol c) h k = by (a == b) refl
  where
    by : (s : Bool) → (a == b) ≡ s → Holds (if s then Sym a else Contradiction) (Symbol c)
    by true e = h
    by false e = absurd (never (sym e ∙ eq-eqb a b (h ∙ sym k)))
merge_holds a b p h k = search rules

merge_kind : (kind : Kind) (size : ℕ) (a b : Info) → IsOf kind size a → IsOf kind size b
    → IsOf kind size (merge_of a b)
merge_kind kind size Nothing b p q = q
merge_kind kind size (Span a) Nothing p q = p
merge_kind kind size (Set a) Nothing p q = p
merge_kind kind size (Sym a) Nothing p q = p
merge_kind kind size Contradiction Nothing p q = p
merge_kind kinds.Span size (Span a) (Span b) p q = span_from_of_span size _ _
merge_kind (kinds.Set domain) size (Set a) (Set b) p q =
    elements_of_kind domain size _ (λ i h. p i (part_left a.bits b.bits i h))
merge_kind kinds.Symbol size (Sym a) (Sym b) p q = by (a == b)
  where
    by : (s : Bool) → IsOf kinds.Symbol size (if s then Sym a else Contradiction)
    by true = tt
    by false = tt
merge_kind kind size a b p q = search rules

-- ---- of all

pub all_above_first : (y : Info) (infos : List Info) → Below y (merge_all y infos)
all_above_first y [] = info_laws.reflexive y
all_above_first y (a ∷ infos) =
    info_laws.transitive y (merge_all y infos) (merge_of a (merge_all y infos))
    (all_above_first y infos) (info_laws.least_above a (merge_all y infos)).above_second

pub all_above_each : (y : Info) (infos : List Info) → Each (λ a. Below a (merge_all y infos)) infos
all_above_each y [] = tt
all_above_each y (a ∷ infos) =
    let all = merge_all y infos in
    let above = info_laws.least_above a all in (
      above.above_first,
      each_weaker (λ b. Below b all) (λ b. Below b (merge_of a all))
          (λ b h. info_laws.transitive b all (merge_of a all) h above.above_second) infos
          (all_above_each y infos),
    )

pub all_least : (y : Info) (infos : List Info) (r : Info) → Below y r → Each (λ a. Below a r) infos
    → Below (merge_all y infos) r
all_least y [] r p q = p
all_least y (a ∷ infos) r p q =
    (info_laws.least_above a (merge_all y infos)).least r q.0 (all_least y infos r p q.1)

pub all_below : (y y' : Info) (olds news : List Info) → Below y y' → AllZip Below olds news
    → Below (merge_all y olds) (merge_all y' news)
all_below y y' [] [] p q = p
all_below y y' (a ∷ olds) (b ∷ news) p q =
    merge_below a (merge_all y olds) b (merge_all y' news) q.0 (all_below y y' olds news p q.1)
all_below y y' olds news p q = search rules

pub all_hold : (y : Info) (infos : List Info) (p : Point) → Holds y p → Each (λ a. Holds a p) infos
    → Holds (merge_all y infos) p
all_hold y [] p h k = h
all_hold y (a ∷ infos) p h k = merge_holds a (merge_all y infos) p k.0 (all_hold y infos p h k.1)

pub all_of_kind : (kind : Kind) (size : ℕ) (y : Info) (infos : List Info) → IsOf kind size y
    → Each (IsOf kind size) infos → IsOf kind size (merge_all y infos)
all_of_kind kind size y [] h k = h
all_of_kind kind size y (a ∷ infos) h k =
    merge_kind kind size a (merge_all y infos) k.0 (all_of_kind kind size y infos h k.1)
