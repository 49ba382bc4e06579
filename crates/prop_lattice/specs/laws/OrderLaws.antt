-- The order of informations is one of partial information.
use Rattle.std.specs.Prelude.{◌≡◌, ℕ, ◌<◌, ◌^◌, ◌≤ℤ◌, neg_ℤ, bit_and, ◌==◌, ◌⊎◌, Bool, true, false}
use Rattle.std.specs.Prelude.{if◌then◌else◌}
use Rattle.std.proofs.Common.{inl, inr, arith, refl, ap, sym, rules, eqb-true}
use Rattle.std.proofs.Props.{props}
use mathlib.Core.HLevel.{is_prop→PathP}
use Rattle.std.proofs.lemmas.Bool.{cases_lt}
use Rattle.std.proofs.lemmas.Bool.Decides.{nat_tests}
use Rattle.std.specs.Int.{int_max, int_min}
use Rattle.std.proofs.lemmas.Int.{ints, clamps}
use Rattle.std.proofs.lemmas.Nat.{and_le_l}
use Rattle.prop_lattice.specs.InformationOrder.{IsInformationOrder, IsLeastAbove}
use Rattle.prop_lattice.specs.Ends.{AreEnds, ends_or_not, some_or_not}
use Rattle.prop_lattice.specs.inner.Ends.{AreSome, span_if}
use Rattle.prop_lattice.specs.Ends.{span_from, elements_from}
use Rattle.prop_lattice.specs.inner.Ends.{elements_if}
use Rattle.prop_lattice.specs.declared.span.TheConstants.{B}
use Rattle.prop_lattice.specs.laws.PartLaws.{part_left, part_right, part_least, same_parts}
use Rattle.prop_lattice.specs.laws.PartLaws.{part_of_none}
use Rattle.prop_lattice.specs.Order.{Below, merge_of}
use Rattle.prop_lattice.specs.declared.span.Span as spans
use Rattle.prop_lattice.specs.declared.elements.Elements as sets
use Rattle.prop_lattice.specs.declared.info.Info.{Info}
use Rattle.prop_lattice.specs.declared.info.Info.TheVariants.{Nothing, Span, Set, Sym}
use Rattle.prop_lattice.specs.declared.info.Info.TheVariants.{Contradiction}

-- spans with the same ends are one
pub same_span : (a b : spans.Span) → a.lo ≡ b.lo → a.hi ≡ b.hi → a ≡ b
same_span a b p q = λ i. record {
  lo = p i;
  hi = q i;
  above = is_prop→PathP (λ j. neg_ℤ B ≤ℤ p j) (λ j. hlevel props) a.above b.above i;
  ordered = is_prop→PathP (λ j. p j ≤ℤ q j) (λ j. hlevel props) a.ordered b.ordered i;
  below = is_prop→PathP (λ j. q j ≤ℤ B) (λ j. hlevel props) a.below b.below i;
}

-- sets with the same bits are one
pub same_elements : (a b : sets.Elements) → a.bits ≡ b.bits → a ≡ b
same_elements a b p = λ i. record {
  bits = p i;
  some = is_prop→PathP (λ j. 0 < p j) (λ j. hlevel props) a.some b.some i;
  fits = is_prop→PathP (λ j. p j < 2 ^ 64) (λ j. hlevel props) a.fits b.fits i;
}

reflexive : (a : Info) → Below a a
reflexive Nothing = tt
reflexive (Span a) = (omega (arith, ints), omega (arith, ints))
reflexive (Set a) = λ i h. h
reflexive (Sym a) = refl
reflexive Contradiction = tt

transitive : (a b c : Info) → Below a b → Below b c → Below a c
transitive Nothing b c p q = tt
transitive (Span a) (Span b) (Span c) p q = (omega (arith, ints), omega (arith, ints))
transitive (Set a) (Set b) (Set c) p q = λ i h. p i (q i h)
transitive (Sym a) (Sym b) (Sym c) p q = cc
transitive a b Contradiction p q = search rules
transitive a b c p q = search rules

antisymmetric : (a b : Info) → Below a b → Below b a → a ≡ b
antisymmetric Nothing Nothing p q = refl
antisymmetric (Span a) (Span b) p q =
    ap Span (same_span a b (omega (arith, ints)) (omega (arith, ints)))
antisymmetric (Set a) (Set b) p q = ap Set (same_elements a b (same_parts a.bits b.bits p q))
antisymmetric (Sym a) (Sym b) p q = ap Sym p
antisymmetric Contradiction Contradiction p q = refl
antisymmetric a b p q = search rules

pub to_top : (a : Info) → Below a Contradiction
to_top Nothing = tt
to_top (Span a) = tt
to_top (Set a) = tt
to_top (Sym a) = tt
to_top Contradiction = tt

least_span : (a b : spans.Span)
    (d : AreEnds (int_max a.lo b.lo) (int_min a.hi b.hi)
    ⊎ ¬ (AreEnds (int_max a.lo b.lo) (int_min a.hi b.hi)))
    → IsLeastAbove Below (Span a) (Span b) (span_if (int_max a.lo b.lo) (int_min a.hi b.hi) d)
least_span a b (inl e) = record {
  above_first = (omega (arith, ints, clamps), omega (arith, ints, clamps));
  above_second = (omega (arith, ints, clamps), omega (arith, ints, clamps));
  least = elim [
    | Nothing ↦ λ p q. p
    | Span c ↦ λ p q. (omega (arith, ints, clamps), omega (arith, ints, clamps))
    | Set c ↦ λ p q. p
    | Sym c ↦ λ p q. p
    | Contradiction ↦ λ p q. tt
  ];
}
least_span a b (inr f) = record {
  above_first = tt;
  above_second = tt;
  least = elim [
    | Nothing ↦ λ p q. p
    | Span c ↦ λ p q. absurd (f (
      omega (arith, ints, clamps),
      omega (arith, ints, clamps),
      omega (arith, ints, clamps),
    ))
    | Set c ↦ λ p q. p
    | Sym c ↦ λ p q. p
    | Contradiction ↦ λ p q. tt
  ];
}

least_set : (a b : sets.Elements)
    (d : AreSome (bit_and a.bits b.bits) ⊎ ¬ (AreSome (bit_and a.bits b.bits)))
    → IsLeastAbove Below (Set a) (Set b) (elements_if (bit_and a.bits b.bits) d)
least_set a b (inl e) = record {
  above_first = part_left a.bits b.bits;
  above_second = part_right a.bits b.bits;
  least = elim [
    | Nothing ↦ λ p q. p
    | Span c ↦ λ p q. p
    | Set c ↦ λ p q. part_least a.bits b.bits c.bits p q
    | Sym c ↦ λ p q. p
    | Contradiction ↦ λ p q. tt
  ];
}
least_set a b (inr f) =
    let none : bit_and a.bits b.bits ≡ 0 =
    elim (cases_lt 0 (bit_and a.bits b.bits)) [
      | inl some ↦ absurd (f (some, omega (arith, and_le_l a.bits b.bits)))
      | inr h ↦ omega arith
    ]
    in record {
      above_first = tt;
      above_second = tt;
      least = elim [
        | Nothing ↦ λ p q. p
        | Span c ↦ λ p q. p
        | Set c ↦ λ p q. omega (
          arith,
          part_of_none _ c.bits none (part_least a.bits b.bits c.bits p q),
        )
        | Sym c ↦ λ p q. p
        | Contradiction ↦ λ p q. tt
      ];
    }

least_sym : (a b : ℕ) (t : Bool) → (a == b) ≡ t
    → IsLeastAbove Below (Sym a) (Sym b) (if t then Sym a else Contradiction)
least_sym a b true e = record {
  above_first = refl;
  above_second = sym (eqb-true a b e);
  least = λ c p q. p;
}
least_sym a b false e = record {
  above_first = tt;
  above_second = tt;
  least = elim [
    | Nothing ↦ λ p q. p
    | Span c ↦ λ p q. p
    | Set c ↦ λ p q. p
    | Sym c ↦ λ p q. grind (arith, nat_tests)
    | Contradiction ↦ λ p q. tt
  ];
}

least_above : (a b : Info) → IsLeastAbove Below a b (merge_of a b)
unfolding span_from elements_from
least_above Nothing b = record { above_first = tt; above_second = reflexive b; least = λ c p q. q }
least_above (Span a) Nothing =
    record { above_first = reflexive (Span a); above_second = tt; least = λ c p q. p }
least_above (Set a) Nothing = record {
  above_first = reflexive (Set a);
  above_second = tt;
  least = λ c p q. p;
}
least_above (Sym a) Nothing = record {
  above_first = reflexive (Sym a);
  above_second = tt;
  least = λ c p q. p;
}
least_above Contradiction Nothing =
    record { above_first = tt; above_second = tt; least = λ c p q. p }
least_above (Span a) (Span b) = least_span a b (ends_or_not (int_max a.lo b.lo) (int_min a.hi b.hi))
least_above (Set a) (Set b) = least_set a b (some_or_not (bit_and a.bits b.bits))
least_above (Sym a) (Sym b) = least_sym a b (a == b) refl
least_above a b = record {
  above_first = to_top a;
  above_second = to_top b;
  least = elim [
    | Nothing ↦ λ p q. search rules
    | Span c ↦ λ p q. search rules
    | Set c ↦ λ p q. search rules
    | Sym c ↦ λ p q. search rules
    | Contradiction ↦ λ p q. tt
  ];
}

pub info_laws : IsInformationOrder Below Nothing Contradiction merge_of
info_laws = record {
  reflexive = reflexive;
  transitive = transitive;
  antisymmetric = antisymmetric;
  from_bottom = λ a. tt;
  to_top = to_top;
  least_above = least_above;
}
