-- What selections leave of a span, by Hall's theorem.
use Rattle.std.proofs.Common.{◌≡◌, ℕ, suc, ◌+◌, ◌^◌, ◌<◌, ◌≤◌, ℤ, pos, neg_ℤ, ◌≤ℤ◌}
use Rattle.std.proofs.Common.{List, [], ◌∷◌, map, length, arith, rules, ap, sym, subst, refl, ◌∙◌, inl, inr}
use Rattle.std.specs.Prelude.{⊤}
use Rattle.std.specs.Int.{bit_at}
use Rattle.std.specs.List.{AllByRecursion as Each, AllZip}
use Rattle.std.proofs.Math.Pow.{pow-lt}
use Rattle.std.proofs.lemmas.Bool.{cases_lt}
use Rattle.std.proofs.lemmas.Int.{ints}
use Rattle.std.proofs.lemmas.List.{length-map}
use Rattle.std.proofs.lemmas.Nat.Bits.{bit_at_mask_below, bit_at_mask_above, bit_at-pow_same}
use Rattle.prop_lattice.specs.Order.{Below}
use Rattle.prop_lattice.specs.Points.{Point, Number, Holds}
use Rattle.prop_lattice.specs.declared.info.Info.{Info}
use Rattle.prop_lattice.specs.declared.info.Info.TheVariants.{Nothing, Span, Set, Sym, Contradiction}
use Rattle.prop_lattice.specs.declared.span.Span as spans
use Rattle.prop_lattice.specs.declared.span.TheConstants.{B}
use Rattle.prop_lattice.specs.laws.OrderLaws.{to_top}
use Rattle.prop_procedures.specs.Rules.{EachHolds}
use Rattle.prop_hall.specs.Excluding.{told_by, excluded_of}
use Rattle.prop_hall.specs.Narrowest.{IsLeftNumber, ExcludedSpanIsNarrowest}
use Rattle.prop_hall.specs.Points.{AreDifferent, IsNoneOf}
use Rattle.prop_hall.specs.Selections.{selections}
use Rattle.prop_hall.specs.laws.ExcludingLaws.{excluded_holds}
use Rattle.prop_hall.specs.laws.MergeLaws.{all_above_first, all_above_each}
use Rattle.prop_hall.specs.laws.PigeonLaws.{placed_different}
use Rattle.prop_hall.specs.laws.SelectionLaws.{each_unmap}
use Rattle.prop_hall.proofs.CountLemmas.{ones_one}
use Rattle.prop_hall.proofs.HallLemmas.{IsRoomy, hall}
use Rattle.prop_hall.proofs.RunLemmas.{word_of, inside, HasRoom, words_fit}
use Rattle.prop_hall.proofs.RunLemmas.{roomy_runs}
use Rattle.prop_hall.proofs.SpanPlaces.{range, range_is, place, number, place_is, number_of, same_number, ends_of}
use Rattle.prop_hall.proofs.SpanPlaces.{first_place, last_place, ends_ordered, ends_within}
use Rattle.prop_hall.proofs.SpanSelections.{TellBelow}
use Rattle.prop_hall.proofs.SpanRuns.{free_runs}
use Rattle.prop_hall.proofs.SpanEnds.{first_free, last_free}

-- ---- different numbers

in_spans : (ss : List spans.Span) (bits : List ℕ) → AllZip (λ w i. bit_at w i ≡ 1) (map word_of (map ends_of ss)) bits
    → AllZip (λ s p. Holds (Span s) (Number p)) ss (map number bits)
in_spans [] [] h = tt
in_spans (s ∷ ss) (i ∷ bits) h = (held, in_spans ss bits h.1)
  where
    held : Holds (Span s) (Number (number i))
    held = elim (cases_lt i (place s.lo)) [
      | inl low ↦ absurd (omega (arith, h.0, bit_at_mask_below (place s.lo) (place s.hi + 1) i low))
      | inr from ↦ elim (cases_lt (place s.hi) i) [
        | inl high ↦ absurd (omega (
          arith,
          h.0,
          bit_at_mask_above (place s.lo) (place s.hi + 1) i (omega (arith, high)),
        ))
        | inr to ↦ (omega (arith, ints, from, first_place s), omega (arith, ints, to, last_place s))
      ]
    ]
in_spans ss bits h = search rules

not_among : (j : ℕ) (bits : List ℕ) → Each (λ i. ¬ (bit_at (2 ^ j) i ≡ 1)) bits → IsNoneOf j bits
not_among j [] h = tt
not_among j (i ∷ bits) h =
    (λ same. h.0 (ap (bit_at (2 ^ j)) (sym same) ∙ bit_at-pow_same j), not_among j bits h.1)

each_place : (ps : List ℕ) → Each (λ i. ⊤) ps
each_place [] = tt
each_place (p ∷ ps) = (tt, each_place ps)

left_beside : (y : spans.Span) (ss : List spans.Span) (m : spans.Span) → TellBelow y ss m → (v : ℤ)
    → Holds (Span y) (Number v)
    → ((g k : ℕ) → g ≤ place v → place v ≤ k → k < range → inside g k (map ends_of ss) + g ≤ k) → IsLeftNumber y ss v
left_beside y ss m tell v h beside =
    let es = map ends_of ss in
    let above : neg_ℤ B ≤ℤ v = omega (arith, ints, h.0, y.above) in
    let j = place v in
    let low : j < range = omega (arith, ints, place_is v above, h.1, y.below, range_is) in
    let choice = hall range (map word_of es) (2 ^ j) (pow-lt low) (words_fit range es (ends_within ss)) (roomy low) in
    let different : AreDifferent (number j ∷ map number choice.0) =
    placed_different number (λ i. ⊤) (λ p q a b. same_number p q) (j ∷ choice.0) (each_place (j ∷ choice.0))
    (not_among j choice.0 choice.1.free, choice.1.different) in (
      h,
      map number choice.0,
      in_spans ss choice.0 choice.1.each,
      subst (λ x. AreDifferent (x ∷ map number choice.0)) (number_of v above) different,
    )
  where
    roomy : place v < range → IsRoomy (2 ^ place v) (map word_of (map ends_of ss))
    roomy low f =
        let room : HasRoom (map ends_of ss) (place v) range =
        record { free = free_runs y ss m tell; beside = beside } in
        omega (
          arith,
          ones_one (place v),
          roomy_runs (map ends_of ss) (place v) range low (ends_ordered ss) (ends_within ss) room f,
        )

-- ---- the narrowest

held_of : (ss : List spans.Span) (points : List ℤ) → AllZip (λ s p. Holds (Span s) (Number p)) ss points
    → EachHolds (map Span ss) (map Number points) × (length ss ≡ length points)
held_of [] [] h = (tt, refl)
held_of (s ∷ ss) (p ∷ points) h = let rest = held_of ss points h.1 in ((h.0, rest.0), ap suc rest.1)
held_of ss points h = search rules

number_in : Point → ℤ
number_in (Number v) = v
number_in p = pos 0

same_point : (u v : ℤ) → Number u ≡ Number v → u ≡ v
unfolding number_in
same_point u v e = ap number_in e

each_number : (ps : List ℤ) → Each (λ i. ⊤) ps
each_number [] = tt
each_number (p ∷ ps) = (tt, each_number ps)

left_held : (y : spans.Span) (ss : List spans.Span) (v : ℤ) → length ss < 9 → IsLeftNumber y ss v
    → Holds (excluded_of (Span y) (map Span ss)) (Number v)
left_held y ss v few l =
    let points = l.1 in
    let held = held_of ss points l.2 in
    excluded_holds (Span y) (map Span ss) (Number v) (map Number points)
    (omega (arith, few, held.1, length-map points Number)) l.0 held.0
    (placed_different Number (λ i. ⊤) (λ p q a b. same_point p q) (v ∷ points) (each_number (v ∷ points)) l.3)

highest_of : (y : spans.Span) (ss : List spans.Span) (s : Info)
    → ((v : ℤ) → IsLeftNumber y ss v → Holds s (Number v)) → Below s (excluded_of (Span y) (map Span ss))
highest_of y ss s h =
    by (excluded_of (Span y) (map Span ss)) refl
    (all_above_first (Span y) (map (told_by (Span y)) (selections (map Span ss))))
  where
    tells : (m : spans.Span) → excluded_of (Span y) (map Span ss) ≡ Span m → TellBelow y ss m
    tells m is = each_unmap (λ a. Below a (Span m)) (told_by (Span y)) (selections (map Span ss))
        (subst (λ b. Each (λ a. Below a b) (map (told_by (Span y)) (selections (map Span ss)))) is
        (all_above_each (Span y) (map (told_by (Span y)) (selections (map Span ss)))))

    of_ends : (m : spans.Span) (s : Info) → Holds s (Number m.lo) → Holds s (Number m.hi) → Below s (Span m)
    of_ends m Nothing p q = tt
    of_ends m (Span a) p q = (p.0, q.1)
    of_ends m (Set a) p q = absurd p
    of_ends m (Sym a) p q = absurd p
    of_ends m Contradiction p q = absurd p

    by : (r : Info) → excluded_of (Span y) (map Span ss) ≡ r → Below (Span y) r → Below s r
    by Contradiction is b = to_top s
    by (Span m) is b = of_ends m s
        (h m.lo (left_beside y ss m (tells m is) m.lo (b.0, omega (arith, ints, b.1, m.ordered))
        (first_free y ss m is (tells m is) b)))
        (h m.hi (left_beside y ss m (tells m is) m.hi (omega (arith, ints, b.0, m.ordered), b.1)
        (last_free y ss m is (tells m is) b)))
    by r is b = absurd b

pub excluded_span_is_narrowest : ExcludedSpanIsNarrowest
excluded_span_is_narrowest y ss few = record {
  holds = λ v l. left_held y ss v few l;
  highest = λ s h. highest_of y ss s h;
}
