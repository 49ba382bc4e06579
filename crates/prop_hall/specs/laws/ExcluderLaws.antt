-- The laws of the rules of excluding.
use Rattle.std.specs.Prelude.{◌≡◌, ◌⊎◌, ℕ, ◌<◌, ◌≤◌, ◌-◌, ◌^◌, ◌==◌, Bool, true, false}
use Rattle.std.specs.Prelude.{if◌then◌else◌, List, [], ◌∷◌, length, map, replicate}
use Rattle.std.specs.Int.{bit_at}
use Rattle.std.proofs.Common.{arith, refl, rules, sym, subst, ap, ◌∙◌, inl, inr, eqb-true, eq-eqb}
use Rattle.std.proofs.lemmas.Bool.{cases_lt}
use Rattle.std.proofs.lemmas.Nat.Bits.{bit_at_ones, bit_at_ones_above}
use Rattle.std.proofs.Math.Nat.{pow-le-pow_right}
use Rattle.prop_lattice.specs.Order.{Below}
use Rattle.prop_lattice.specs.Points.{Point, Element, Holds, IsPointOf}
use Rattle.prop_lattice.specs.Rank.{IsOf}
use Rattle.prop_lattice.specs.declared.info.Info.{Info}
use Rattle.prop_lattice.specs.declared.info.Info.TheVariants.{Nothing, Span, Set, Sym}
use Rattle.prop_lattice.specs.declared.info.Info.TheVariants.{Contradiction}
use Rattle.prop_lattice.specs.declared.info.Kind.{Kind}
use Rattle.prop_lattice.specs.declared.info.Kind.TheVariants as kinds
use Rattle.prop_lattice.specs.laws.OrderLaws.{info_laws, to_top}
use Rattle.prop_lattice.specs.laws.PartLaws.{same_parts}
use Rattle.prop_procedures.specs.declared.shape.Kinded.{Kinded}
use Rattle.prop_procedures.specs.declared.shape.Need.{Need}
use Rattle.prop_procedures.specs.declared.shape.Param.{Param}
use Rattle.prop_procedures.specs.declared.shape.Param.TheVariants.{Plain, Scale, Rows}
use Rattle.prop_procedures.specs.declared.shape.Shape.{Shape}
use Rattle.prop_procedures.specs.declared.shape.Shape.TheVariants.{Any, From}
use Rattle.prop_procedures.specs.Rules.{IsMonotone, KeepsKind, IsSound, EachBelow}
use Rattle.prop_procedures.specs.inner.Places.{AreSides}
use Rattle.prop_procedures.specs.inner.Places.{AreOf}
use Rattle.prop_procedures.specs.Rules.{EachHolds}
use Rattle.prop_sets.specs.laws.NarrowestLaws.{elements_hold, elements_of_kind, bit_from_held}
use Rattle.prop_hall.specs.Excluder.{FormOf, Related, IsAnother, value_of, beside, among, left_by}
use Rattle.prop_hall.specs.Excluder.{others_of}
use Rattle.prop_hall.specs.Excluding.{excluded_of, told_by}
use Rattle.prop_hall.specs.Hulls.{all_bits, all_of, narrowed}
use Rattle.prop_hall.specs.Points.{AreDifferent}
use Rattle.prop_hall.specs.Selections.{selections}
use Rattle.prop_hall.specs.declared.excluder.Excluder.{Excluder}
use Rattle.prop_hall.specs.declared.excluder.Excluder.TheVariants.{One, Two, Three, Four, Five, Six}
use Rattle.prop_hall.specs.declared.excluder.Excluder.TheVariants.{Seven, Eight}
use Rattle.prop_hall.specs.laws.HullLaws.{below_holds, never}
use Rattle.prop_hall.specs.laws.MergeLaws.{all_above_first}
use Rattle.prop_hall.specs.laws.ExcludingLaws.{excluded_monotone, excluded_kind, excluded_holds}
use Rattle.prop_hall.specs.laws.ExcludingLaws.{same_length, hold_all}

others_few : (rule : Excluder) → others_of rule < 9
others_few One = omega arith
others_few Two = omega arith
others_few Three = omega arith
others_few Four = omega arith
others_few Five = omega arith
others_few Six = omega arith
others_few Seven = omega arith
others_few Eight = omega arith

-- ---- all elements of a domain

pub all_holds : (domain size : ℕ) → size ≤ 64 → (p : Point) → IsPointOf (kinds.Set domain) size p
    → Holds (all_of size) p
all_holds domain size fits (Element i) l =
    let most : 2 ^ size ≤ 2 ^ 64 = pow-le-pow_right (omega arith) fits in
    elements_hold (2 ^ size - 1) (omega (arith, most)) i (bit_at_ones size i l)
all_holds domain size fits p l = search rules

all_kind : (domain size : ℕ) → IsOf (kinds.Set domain) size (all_of size)
all_kind domain size = elements_of_kind domain size (2 ^ size - 1) below
  where
    below : (i : ℕ) → bit_at (2 ^ size - 1) i ≡ 1 → i < size
    below i h = by (cases_lt i size)
      where
        by : (i < size) ⊎ (size ≤ i) → i < size
        by (inl l) = l
        by (inr g) = absurd (omega (arith, h, bit_at_ones_above size i g))

-- nothing where it is all of them is no more than what it was, and so it stays with more
narrowed_below : (size : ℕ) (a b : Info) → Below (all_of size) a → Below a b
    → Below (narrowed size a) (narrowed size b)
narrowed_below size Nothing b h p = tt
narrowed_below size (Span a) (Span b) h p = p
narrowed_below size (Sym a) (Sym b) h p = p
narrowed_below size Contradiction Contradiction h p = tt
narrowed_below size (Span a) Contradiction h p = tt
narrowed_below size (Sym a) Contradiction h p = tt
narrowed_below size (Set s) Contradiction h p = to_top (narrowed size (Set s))
narrowed_below size (Set s) (Set t) h p =
    by (s.bits == all_bits size) refl (t.bits == all_bits size) refl
  where
    -- what has all of them is all of them
    full : t.bits ≡ all_bits size → s.bits ≡ all_bits size
    full e = same_parts s.bits (all_bits size) (λ i k. p i (ap (λ n. bit_at n i) e ∙ k))
        (λ i k. bit_from_held (all_bits size) i (below_holds (all_of size) (Set s) (Element i) h k))

    by : (r : Bool) → (s.bits == all_bits size) ≡ r → (q : Bool) → (t.bits == all_bits size) ≡ q
        → Below (if r then Nothing else Set s) (if q then Nothing else Set t)
    by true e q f = tt
    by false e false f = p
    by false e true f =
        let all = full (eqb-true t.bits (all_bits size) f) in
        absurd (never (sym e ∙ eq-eqb s.bits (all_bits size) all))
narrowed_below size a b h p = search rules

narrowed_kind : (kind : Kind) (n size : ℕ) (a : Info) → IsOf kind n a
    → IsOf kind n (narrowed size a)
narrowed_kind kind n size (Set s) h = by (s.bits == all_bits size)
  where
    by : (r : Bool) → IsOf kind n (if r then Nothing else Set s)
    by true = search rules
    by false = h
narrowed_kind kind n size a h = h

narrowed_holds : (size : ℕ) (a : Info) (p : Point) → Holds a p → Holds (narrowed size a) p
narrowed_holds size (Set s) p h = by (s.bits == all_bits size)
  where
    by : (r : Bool) → Holds (if r then Nothing else Set s) p
    by true = tt
    by false = h
narrowed_holds size a p h = h

-- ---- where there are so many arguments

so_many_below : (s t : Bool) (a b : Info) → s ≡ t → Below a b
    → Below (if s then a else Nothing) (if t then b else Nothing)
so_many_below true true a b e h = h
so_many_below true false a b e h = absurd (never (sym e))
so_many_below false t a b e h = tt

so_many_kind : (t : Bool) (kind : Kind) (size : ℕ) (a : Info) → IsOf kind size a
    → IsOf kind size (if t then a else Nothing)
so_many_kind true kind size a h = h
so_many_kind false kind size a h = search rules

-- ---- more in the arguments is more in the answer

more_beside : (many : ℕ) (olds news : List Info) → EachBelow olds news
    → Below (beside many olds) (beside many news)
more_beside many [] [] p = tt
more_beside many (y ∷ olds) (y' ∷ news) p =
    so_many_below (length olds == many) (length news == many) (excluded_of y olds)
    (excluded_of y' news) (ap (λ n. n == many) (same_length olds news p.1))
    (excluded_monotone y y' olds news p.0 p.1)
more_beside many olds news p = search rules

more_among : (param : Param) (olds news : List Info) → EachBelow olds news
    → Below (among param olds) (among param news)
more_among (Rows m) olds news p =
    let all = all_of m.from.size in
    so_many_below (length olds == 8) (length news == 8) (left_by m olds) (left_by m news)
    (ap (λ n. n == 8) (same_length olds news p))
    (narrowed_below m.from.size (excluded_of all olds) (excluded_of all news)
    (all_above_first all (map (told_by all) (selections olds)))
    (excluded_monotone all all olds news (info_laws.reflexive all) p))
more_among Plain olds news p = tt
more_among (Scale k) olds news p = tt

pub excluder_monotone : (rule : Excluder) (ins : List Shape) (out : Shape) (need : Need)
    → FormOf rule ins out need → IsMonotone (value_of rule) ins need
excluder_monotone Eight ins out need f any param olds news c d p = more_among param olds news p
excluder_monotone rule ins out need f any param olds news c d p =
    more_beside (others_of rule) olds news p

-- ---- answers of their kind

beside_kind : (many : ℕ) (any : Shape → Kinded) (shapes : List Shape) (args : List Info)
    → AreOf any (Any 0 ∷ shapes) args
    → IsOf (any (Any 0)).kind (any (Any 0)).size (beside many args)
beside_kind many any shapes [] h = absurd h
beside_kind many any shapes (y ∷ others) h =
    let kind = any (Any 0) in
    so_many_kind (length others == many) kind.kind kind.size (excluded_of y others)
    (excluded_kind kind.kind kind.size y others h.0)

among_kind : (any : Shape → Kinded) (param : Param) (args : List Info) → AreSides any param
    → IsOf (any From).kind (any From).size (among param args)
among_kind any (Rows m) args s =
    let all = all_of m.from.size in
    subst (λ k. IsOf k.kind k.size (among (Rows m) args)) (sym s.0)
    (so_many_kind (length args == 8) (kinds.Set m.from.domain) m.from.size (left_by m args)
    (narrowed_kind (kinds.Set m.from.domain) m.from.size m.from.size (excluded_of all args)
    (excluded_kind (kinds.Set m.from.domain) m.from.size all args
    (all_kind m.from.domain m.from.size))))
among_kind any Plain args s = search rules
among_kind any (Scale k) args s = search rules

pub excluder_keeps_kind : (rule : Excluder) (ins : List Shape) (out : Shape) (need : Need)
    → FormOf rule ins out need → KeepsKind (value_of rule) ins out need
excluder_keeps_kind Eight ins out need f any param args c =
    rw f.1 (among_kind any param args c.sides)
excluder_keeps_kind rule ins out need f any param args c =
    rw f.1 (beside_kind (others_of rule) any (replicate (others_of rule) (Any 0)) args
    (rw f.0 at c.of_kinds))

-- ---- answers that hold what belongs to the arguments

left_beside : (many : ℕ) → many < 9 → (args : List Info) (points : List Point) (point : Point)
    → EachHolds args points → IsAnother points point → Holds (beside many args) point
left_beside many few (y ∷ others) (q ∷ points) point h r = by (length others == many) refl
  where
    by : (t : Bool) → (length others == many) ≡ t
        → Holds (if t then excluded_of y others else Nothing) point
    by true e =
        let fits : length points < 64 = omega (
          arith,
          (hold_all others points h.1).0,
          eqb-true (length others) many e,
          few,
        ) in
        subst (Holds (excluded_of y others)) (sym r.0)
        (excluded_holds y others q points fits h.0 h.1 r.1)
    by false e = tt
left_beside many few args points point h r = search rules

left_among : (any : Shape → Kinded) (param : Param) (args : List Info) (points : List Point)
    (point : Point) → AreSides any param → IsPointOf (any From).kind (any From).size point
    → EachHolds args points → AreDifferent (point ∷ points) → Holds (among param args) point
left_among any (Rows m) args points point s p h d = by (length args == 8) refl
  where
    all : Info
    all = all_of m.from.size

    of_kind : IsPointOf (kinds.Set m.from.domain) m.from.size point
    of_kind = subst (λ k. IsPointOf k.kind k.size point) s.0 p

    by : (t : Bool) → (length args == 8) ≡ t
        → Holds (if t then left_by m args else Nothing) point
    by true e =
        let fits : length points < 64 = omega (
          arith,
          (hold_all args points h).0,
          eqb-true (length args) 8 e,
        ) in
        narrowed_holds m.from.size (excluded_of all args) point
        (excluded_holds all args point points fits
        (all_holds m.from.domain m.from.size m.from.fits point of_kind) h d)
    by false e = tt
left_among any Plain args points point s p h d = tt
left_among any (Scale k) args points point s p h d = tt

pub excluder_sound : (rule : Excluder) (ins : List Shape) (out : Shape) (need : Need)
    → FormOf rule ins out need → IsSound (value_of rule) (Related rule) ins out need
excluder_sound Eight ins out need f any param args points point c ps p h r =
    left_among any param args points point c.sides (rw f.1 at p) h r
excluder_sound rule ins out need f any param args points point c ps p h r =
    left_beside (others_of rule) (others_few rule) args points point h r
