-- The ends of what selections leave lie in no run that is full.
use Rattle.std.proofs.Common.{◌≡◌, ◌⊎◌, ℕ, suc, ◌+◌, ◌<◌, ◌≤◌, pos, ◌+ℤ◌, ◌-ℤ◌, ◌≤ℤ◌, ◌<ℤ◌}
use Rattle.std.proofs.Common.{List, map, arith, inl, inr}
use Rattle.std.proofs.lemmas.Bool.{cases_lt}
use Rattle.std.proofs.lemmas.Int.{ints}
use Rattle.prop_lattice.specs.Ends.{numbers_in}
use Rattle.prop_lattice.specs.Order.{Below}
use Rattle.prop_lattice.specs.declared.info.Info.TheVariants.{Span}
use Rattle.prop_lattice.specs.declared.span.Span as spans
use Rattle.prop_hall.specs.Excluding.{excluded_of}
use Rattle.prop_hall.specs.Hulls.{without_of, first_without, last_without}
use Rattle.prop_hall.specs.laws.ExcludingLaws.{first_is, last_is}
use Rattle.prop_hall.specs.laws.ExcludingLaws.{cases_le}
use Rattle.prop_hall.proofs.RunLemmas.{Ends, inside}
use Rattle.prop_hall.proofs.SpanPlaces.{range, range_is, place, ends_of, first_place, last_place, inside_span}
use Rattle.prop_hall.proofs.SpanPlaces.{numbers_place, span_at}
use Rattle.prop_hall.proofs.SpanSelections.{TellBelow, ends_from, ends_below}
use Rattle.prop_hall.proofs.SpanRuns.{free_runs, full_run, joined_run, told_below}

-- no full run has the first number of m
pub first_free : (y : spans.Span) (ss : List spans.Span) (m : spans.Span) → excluded_of (Span y) (map Span ss) ≡ Span m
    → TellBelow y ss m → Below (Span y) (Span m) → (g k : ℕ) → g ≤ place m.lo → place m.lo ≤ k → k < range
    → inside g k (map ends_of ss) + g ≤ k
first_free y ss m is tell in_y g k from to within = by (cases_lt k (inside g k es + g))
  where
    es : List Ends
    es = map ends_of ss

    l : g ≤ k
    l = omega (arith, from, to)

    w : spans.Span
    w = span_at g k l within

    has_first : (w.lo ≤ℤ m.lo) × (m.lo ≤ℤ w.hi)
    has_first = (omega (arith, ints, from, first_place m), omega (arith, ints, to, first_place m))

    by : (k < inside g k es + g) ⊎ (inside g k es + g ≤ k) → inside g k es + g ≤ k
    by (inr le) = le
    by (inl more) = absurd (elim (first_is y w) [
      | inl i ↦ omega (arith, ints, i.2, out.0, has_first.1)
      | inr o ↦ elim (cases_le w.lo y.lo) [
        | inl le ↦ o.0 (le, omega (arith, ints, in_y.0, has_first.1))
        | inr gt ↦ too_low gt
      ]
    ])
      where
        full : inside g k es + g ≡ suc k
        full = omega (arith, more, free_runs y ss m tell g k l within)

        out : (first_without y w ≤ℤ m.lo) × (m.hi ≤ℤ last_without y w)
        out = ends_from (first_without y w) (last_without y w) m (full_run y ss m tell g k l within full)

        too_low : y.lo <ℤ w.lo → ⊥
        too_low gt =
            omega (arith, ints, (told_below y ss m n is tell (omega (arith, ints, gt), in_y.1) step).0, has_first.0)
          where
            n : spans.Span
            n = record {
              lo = w.lo -ℤ pos 1;
              hi = m.hi;
              above = omega (arith, ints, gt, y.above);
              ordered = omega (arith, ints, has_first.0, m.ordered);
              below = m.below;
            }

            step : (x : spans.Span) → numbers_in x ≤ inside_span x ss → Below (without_of (Span y) (Span x)) (Span m)
                → Below (without_of (Span y) (Span x)) (Span n)
            step x few b =
                ends_below (first_without y x) (last_without y x) m n b
                (elim (first_is y x) [
                  | inr o ↦ omega (arith, ints, o.1, gt)
                  | inl i ↦ elim (cases_le (x.hi +ℤ pos 2) w.lo) [
                    | inl le ↦ omega (arith, ints, i.2, le)
                    | inr near ↦ absurd (clash i.0 i.1 i.2 near)
                  ]
                ])
                (ends_from (first_without y x) (last_without y x) m b).1
              where
                ends : (first_without y x ≤ℤ m.lo) × (m.hi ≤ℤ last_without y x)
                ends = ends_from (first_without y x) (last_without y x) m b

                clash : x.lo ≤ℤ y.lo → y.lo ≤ℤ x.hi → first_without y x ≡ x.hi +ℤ pos 1 → w.lo <ℤ (x.hi +ℤ pos 2) → ⊥
                clash p q e near =
                    let past : place x.hi ≤ k = omega (arith, ints, e, ends.0, has_first.1, last_place x) in
                    let before : place x.lo ≤ g = omega (arith, ints, p, gt, first_place x) in
                    let long : place x.lo ≤ k = omega (arith, before, l) in
                    let joined = joined_run y ss m tell (place x.lo) (place x.hi) g k before past
                    (omega (arith, ints, near, last_place x))
                    (omega (arith, ints, x.ordered, first_place x, last_place x))
                    within (omega (arith, few, numbers_place x)) (omega (arith, full)) in
                    let z = span_at (place x.lo) k long within in
                    let far = ends_from (first_without y z) (last_without y z) m
                    (full_run y ss m tell (place x.lo) k long within joined) in
                    elim (first_is y z) [
                      | inl i ↦ omega (arith, ints, i.2, far.0, has_first.1)
                      | inr o ↦ o.0 (omega (arith, ints, p, first_place x), omega (arith, ints, q, past, last_place x))
                    ]

-- no full run has the last number of m
pub last_free : (y : spans.Span) (ss : List spans.Span) (m : spans.Span) → excluded_of (Span y) (map Span ss) ≡ Span m
    → TellBelow y ss m → Below (Span y) (Span m) → (g k : ℕ) → g ≤ place m.hi → place m.hi ≤ k → k < range
    → inside g k (map ends_of ss) + g ≤ k
last_free y ss m is tell in_y g k from to within = by (cases_lt k (inside g k es + g))
  where
    es : List Ends
    es = map ends_of ss

    l : g ≤ k
    l = omega (arith, from, to)

    w : spans.Span
    w = span_at g k l within

    has_last : (w.lo ≤ℤ m.hi) × (m.hi ≤ℤ w.hi)
    has_last = (omega (arith, ints, from, last_place m), omega (arith, ints, to, last_place m))

    by : (k < inside g k es + g) ⊎ (inside g k es + g ≤ k) → inside g k es + g ≤ k
    by (inr le) = le
    by (inl more) = absurd (elim (last_is y w) [
      | inl i ↦ omega (arith, ints, i.2, out.1, has_last.0)
      | inr o ↦ elim (cases_le y.hi w.hi) [
        | inl le ↦ o.0 (omega (arith, ints, in_y.1, has_last.0), le)
        | inr gt ↦ too_high gt
      ]
    ])
      where
        full : inside g k es + g ≡ suc k
        full = omega (arith, more, free_runs y ss m tell g k l within)

        out : (first_without y w ≤ℤ m.lo) × (m.hi ≤ℤ last_without y w)
        out = ends_from (first_without y w) (last_without y w) m (full_run y ss m tell g k l within full)

        too_high : w.hi <ℤ y.hi → ⊥
        too_high gt =
            omega (arith, ints, (told_below y ss m n is tell (in_y.0, omega (arith, ints, gt)) step).1, has_last.1)
          where
            n : spans.Span
            n = record {
              lo = m.lo;
              hi = w.hi +ℤ pos 1;
              above = m.above;
              ordered = omega (arith, ints, has_last.1, m.ordered);
              below = omega (arith, ints, gt, y.below);
            }

            step : (x : spans.Span) → numbers_in x ≤ inside_span x ss → Below (without_of (Span y) (Span x)) (Span m)
                → Below (without_of (Span y) (Span x)) (Span n)
            step x few b =
                ends_below (first_without y x) (last_without y x) m n b
                (ends_from (first_without y x) (last_without y x) m b).0
                (elim (last_is y x) [
                  | inr o ↦ omega (arith, ints, o.1, gt)
                  | inl i ↦ elim (cases_le (w.hi +ℤ pos 2) x.lo) [
                    | inl le ↦ omega (arith, ints, i.2, le)
                    | inr near ↦ absurd (clash i.0 i.1 i.2 near)
                  ]
                ])
              where
                ends : (first_without y x ≤ℤ m.lo) × (m.hi ≤ℤ last_without y x)
                ends = ends_from (first_without y x) (last_without y x) m b

                clash : x.lo ≤ℤ y.hi → y.hi ≤ℤ x.hi → last_without y x ≡ x.lo -ℤ pos 1 → x.lo <ℤ (w.hi +ℤ pos 2) → ⊥
                clash p q e near =
                    let past : k ≤ place x.hi = omega (arith, ints, q, gt, last_place x) in
                    let before : g ≤ place x.lo = omega (arith, ints, e, ends.1, has_last.0, first_place x) in
                    let long : g ≤ place x.hi = omega (arith, past, l) in
                    let low : place x.hi < range = omega (arith, ints, last_place x, x.below, range_is) in
                    let joined = joined_run y ss m tell g k (place x.lo) (place x.hi) before past
                    (omega (arith, ints, near, first_place x)) l low
                    (omega (arith, full)) (omega (arith, few, numbers_place x)) in
                    let z = span_at g (place x.hi) long low in
                    let far = ends_from (first_without y z) (last_without y z) m
                    (full_run y ss m tell g (place x.hi) long low joined) in
                    elim (last_is y z) [
                      | inl i ↦ omega (arith, ints, i.2, far.1, has_last.0)
                      | inr o ↦ o.0 (
                        omega (arith, ints, p, before, first_place x),
                        omega (arith, ints, q, last_place x),
                      )
                    ]
