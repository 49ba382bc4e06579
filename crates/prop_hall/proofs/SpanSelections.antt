-- Selections of spans that lie in a span, and what they tell.
use Rattle.std.proofs.Common.{◌≡◌, ◌⊎◌, ◌<◌, ◌≤◌, ℤ, ◌≤ℤ◌, ◌<ℤ◌}
use Rattle.std.proofs.Common.{List, [], ◌∷◌, map, length, arith, sym, subst, refl, inl, inr}
use Rattle.std.specs.List.{AllByRecursion as Each}
use Rattle.std.proofs.lemmas.Bool.{cases_lt}
use Rattle.std.proofs.lemmas.Int.{ints}
use Rattle.prop_lattice.specs.Ends.{AreEnds, ends_or_not, span_from, numbers_in}
use Rattle.prop_lattice.specs.inner.Ends.{span_if}
use Rattle.prop_lattice.specs.Order.{Below}
use Rattle.prop_lattice.specs.declared.info.Info.{Info}
use Rattle.prop_lattice.specs.declared.info.Info.TheVariants.{Span}
use Rattle.prop_lattice.specs.declared.span.Span as spans
use Rattle.prop_lattice.specs.laws.OrderLaws.{info_laws}
use Rattle.prop_hall.specs.Excluding.{told_by}
use Rattle.prop_hall.specs.Hulls.{hull_of, hull_of_two, points_in, without_of}
use Rattle.prop_hall.specs.Selections.{selections}
use Rattle.prop_hall.specs.laws.ExcludingLaws.{told_over, told_tight}
use Rattle.prop_hall.specs.laws.ExcludingLaws.{Room, Over, Tight, Loose, room, cases_le}
use Rattle.prop_hall.specs.laws.HullLaws.{hull_first, hull_second, hull_greatest, fewer_points}
use Rattle.prop_hall.specs.laws.SelectionLaws.{each_append, each_map, each_split, each_unmap, each_weaker}
use Rattle.prop_hall.proofs.RunLemmas.{counted_in, counted_out}
use Rattle.prop_hall.proofs.SpanPlaces.{place, ends_of, first_place, last_place, inside_span}

-- ---- selections of the spans in a span

-- the selection has no more members than there are spans in a span that has its hull
abbrev pub IsFew : List spans.Span → List Info → Type 0
IsFew ss t = (w : spans.Span) → Below (Span w) (hull_of t) → length t ≤ inside_span w ss

-- a selection of all that lie in a span
abbrev pub HasAll : spans.Span → List spans.Span → (List Info → Type 0) → Type 0
HasAll w ss P = (t : List Info) × P t × (length t ≡ inside_span w ss) × Below (Span w) (hull_of t)

-- a selection with its hull in a span has no more members than there are spans in it
pub few_in : (ss : List spans.Span)
    → Each (IsFew ss) (selections (map Span ss))
few_in [] = ((λ w b. omega arith), tt)
few_in (s ∷ ss) =
    each_append (IsFew (s ∷ ss))
    (selections (map Span ss)) (map (λ t. Span s ∷ t) (selections (map Span ss)))
    (each_weaker (IsFew ss)
    (IsFew (s ∷ ss))
    (λ t h w b. omega (arith, h w b)) (selections (map Span ss)) (few_in ss))
    (each_map (IsFew (s ∷ ss))
    (λ t. Span s ∷ t) (selections (map Span ss))
    (each_weaker (IsFew ss)
    (λ t. (w : spans.Span) → Below (Span w) (hull_of (Span s ∷ t)) → length (Span s ∷ t) ≤ inside_span w (s ∷ ss))
    more (selections (map Span ss)) (few_in ss)))
  where
    more : (t : List Info) → IsFew ss t
        → (w : spans.Span) → Below (Span w) (hull_of (Span s ∷ t)) → length (Span s ∷ t) ≤ inside_span w (s ∷ ss)
    more t h w b =
        let rest = hull_of t in
        let first : Below (Span w) (Span s) =
        info_laws.transitive (Span w) (hull_of_two (Span s) rest) (Span s) b (hull_first (Span s) rest) in
        let second : Below (Span w) rest =
        info_laws.transitive (Span w) (hull_of_two (Span s) rest) rest b (hull_second (Span s) rest) in
        omega (
          arith,
          h w second,
          counted_in (place w.lo) (place w.hi) (ends_of s)
              (omega (arith, ints, first.0, first_place w, first_place s))
              (omega (arith, ints, first.1, last_place w, last_place s)),
        )

-- and one has all of these
pub all_in : (w : spans.Span) (ss : List spans.Span) (P : List Info → Type 0) → Each P (selections (map Span ss))
    → HasAll w ss P
all_in w [] P h = ([], h.0, refl, tt)
all_in w (s ∷ ss) P h =
    let parts = each_split P (selections (map Span ss)) (map (λ t. Span s ∷ t) (selections (map Span ss))) h in
    by (cases_le w.lo s.lo) (cases_le s.hi w.hi) (all_in w ss P parts.0)
    (all_in w ss (λ t. P (Span s ∷ t)) (each_unmap P (λ t. Span s ∷ t) (selections (map Span ss)) parts.1))
  where
    by : (w.lo ≤ℤ s.lo) ⊎ (s.lo <ℤ w.lo) → (s.hi ≤ℤ w.hi) ⊎ (w.hi <ℤ s.hi)
        → HasAll w ss P → HasAll w ss (λ t. P (Span s ∷ t)) → HasAll w (s ∷ ss) P
    by (inl l) (inl k) without with_it = (
      Span s ∷ with_it.0,
      with_it.1,
      omega (
        arith,
        with_it.2,
        counted_in (place w.lo) (place w.hi) (ends_of s)
            (omega (arith, ints, l, first_place w, first_place s)) (omega (arith, ints, k, last_place w, last_place s)),
      ),
      hull_greatest (Span s) (hull_of with_it.0) (Span w) (l, k) with_it.3,
    )
    by (inl l) (inr k) without with_it = (
      without.0,
      without.1,
      omega (
        arith,
        without.2,
        counted_out (place w.lo) (place w.hi) (ends_of s)
            (λ both. omega (arith, ints, k, both.1, last_place w, last_place s)),
      ),
      without.3,
    )
    by (inr l) r without with_it = (
      without.0,
      without.1,
      omega (
        arith,
        without.2,
        counted_out (place w.lo) (place w.hi) (ends_of s)
            (λ both. omega (arith, ints, l, both.0, first_place w, first_place s)),
      ),
      without.3,
    )

-- ---- what is told beside a span

-- the selections tell no more than m says
abbrev pub TellBelow : spans.Span → List spans.Span → spans.Span → Type 0
TellBelow y ss m = Each (λ t. Below (told_by (Span y) t) (Span m)) (selections (map Span ss))

-- there are no more spans in a span than numbers
pub no_more : (y : spans.Span) (ss : List spans.Span) (m : spans.Span) → TellBelow y ss m → (w : spans.Span)
    → inside_span w ss ≤ numbers_in w
no_more y ss m tell w =
    let all = all_in w ss (λ t. Below (told_by (Span y) t) (Span m)) tell in
    by all (cases_lt (numbers_in w) (inside_span w ss)) (fewer_points (Span w) (hull_of all.0) all.3).0
  where
    by : (all : HasAll w ss (λ t. Below (told_by (Span y) t) (Span m)))
        → (numbers_in w < inside_span w ss) ⊎ (inside_span w ss ≤ numbers_in w)
        → points_in (hull_of all.0) ≤ numbers_in w
        → inside_span w ss ≤ numbers_in w
    by all (inr le) few = le
    by all (inl l) few = absurd (subst (λ a. Below a (Span m))
        (told_over (length all.0) (hull_of all.0) (Span y) (omega (arith, l, few, all.2))) all.1)

-- where there are as many, m lies outside
pub outside : (y : spans.Span) (ss : List spans.Span) (m : spans.Span) → TellBelow y ss m → (w : spans.Span)
    → inside_span w ss ≡ numbers_in w → Below (without_of (Span y) (Span w)) (Span m)
outside y ss m tell w tight =
    let all = all_in w ss (λ t. Below (told_by (Span y) t) (Span m)) tell in
    by all (room (points_in (hull_of all.0)) (length all.0)) (fewer_points (Span w) (hull_of all.0) all.3)
  where
    by : (all : HasAll w ss (λ t. Below (told_by (Span y) t) (Span m)))
        → Room (points_in (hull_of all.0)) (length all.0)
        → (points_in (hull_of all.0) ≤ numbers_in w)
        × (points_in (hull_of all.0) ≡ numbers_in w → Span w ≡ hull_of all.0)
        → Below (without_of (Span y) (Span w)) (Span m)
    by all (Over l) few =
        absurd (subst (λ a. Below a (Span m)) (told_over (length all.0) (hull_of all.0) (Span y) l) all.1)
    by all (Tight e) few =
        let same : Span w ≡ hull_of all.0 = few.1 (omega (arith, e, all.2, tight)) in
        subst (λ a. Below (without_of (Span y) a) (Span m)) (sym same)
        (subst (λ a. Below a (Span m)) (told_tight (length all.0) (hull_of all.0) (Span y) e) all.1)
    by all (Loose l) few = absurd (omega (arith, l, few.0, all.2, tight))

pub ends_from : (lo hi : ℤ) (m : spans.Span) → Below (span_from lo hi) (Span m) → (lo ≤ℤ m.lo) × (m.hi ≤ℤ hi)
unfolding span_from
ends_from lo hi m b = by (ends_or_not lo hi) b
  where
    by : (d : AreEnds lo hi ⊎ ¬ (AreEnds lo hi)) → Below (span_if lo hi d) (Span m) → (lo ≤ℤ m.lo) × (m.hi ≤ℤ hi)
    by (inl e) b = (b.0, b.1)
    by (inr none) b = absurd b

pub ends_below : (lo hi : ℤ) (m n : spans.Span) → Below (span_from lo hi) (Span m) → lo ≤ℤ n.lo → n.hi ≤ℤ hi
    → Below (span_from lo hi) (Span n)
unfolding span_from
ends_below lo hi m n b p q = by (ends_or_not lo hi) b
  where
    by : (d : AreEnds lo hi ⊎ ¬ (AreEnds lo hi)) → Below (span_if lo hi d) (Span m) → Below (span_if lo hi d) (Span n)
    by (inl e) b = (p, q)
    by (inr none) b = absurd b
