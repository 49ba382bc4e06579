-- The laws of a set without one element.
use Rattle.std.specs.Prelude.{◌≡◌, ◌≢◌, ◌⊎◌, ℕ, ◌<◌, ◌≤◌, ◌^◌, not, ◌&&◌, ◌==◌}
use Rattle.std.specs.Bool.{Decides}
use Rattle.std.specs.Int.{bit_at}
use Rattle.std.proofs.Common.{arith, ap, inl, inr}
use Rattle.std.proofs.lemmas.Bool.{cases_lt}
use Rattle.std.proofs.lemmas.Bool.Decides.{Decides-eqb, Decides-and, Decides-not}
use Rattle.std.proofs.lemmas.Nat.Bits.{bit_at_above}
use Rattle.prop_lattice.specs.Ends.{elements_from}
use Rattle.prop_lattice.specs.Order.{Below, HasElement}
use Rattle.prop_lattice.specs.laws.PartLaws.{same_parts}
use Rattle.prop_lattice.specs.Points.{Element, Holds}
use Rattle.prop_lattice.specs.Rank.{IsOf}
use Rattle.prop_lattice.specs.declared.elements.Elements as sets
use Rattle.prop_lattice.specs.declared.info.Info.TheVariants.{Set}
use Rattle.prop_lattice.specs.declared.info.Kind.TheVariants as kinds
use Rattle.prop_sets.specs.Chosen.{bits_where}
use Rattle.prop_sets.specs.laws.ChosenLaws.{bits_where-lt, bits_where-passes, bits_where-has}
use Rattle.prop_sets.specs.inner.Words.{is_set}
use Rattle.prop_sets.specs.Narrowest.{IsNarrowest}
use Rattle.prop_sets.specs.laws.NarrowestLaws.{elements_hold, elements_below, elements_of_kind}
use Rattle.prop_sets.specs.laws.NarrowestLaws.{elements_narrowest}
use Rattle.prop_sets.specs.Others.{IsOther, without_of}

other-Decides : (y : sets.Elements) (x j : ℕ)
    → Decides (is_set y.bits j && not (j == x)) (IsOther y x j)
other-Decides y x j = Decides-and (is_set y.bits j) (not (j == x)) (Decides-eqb (bit_at y.bits j) 1)
    (Decides-not (j == x) (Decides-eqb j x))

others-lt : (y : sets.Elements) (x : ℕ)
    → bits_where 64 (λ j. is_set y.bits j && not (j == x)) < 2 ^ 64
others-lt y x = bits_where-lt 64 (λ j. is_set y.bits j && not (j == x))

others-has : (y : sets.Elements) (x j : ℕ)
    → bit_at (bits_where 64 (λ j. is_set y.bits j && not (j == x))) j ≡ 1 → IsOther y x j
others-has y x j h = (other-Decides y x j).0
    (bits_where-passes 64 (λ j. is_set y.bits j && not (j == x)) j h).1

element_lt : (y : sets.Elements) (j : ℕ) → HasElement y j → j < 64
element_lt y j h = by (cases_lt j 64)
  where
    by : (j < 64) ⊎ (64 ≤ j) → j < 64
    by (inl l) = l
    by (inr high) = absurd (omega (arith, h, bit_at_above y.bits 64 j y.fits high))

others-is : (y : sets.Elements) (x j : ℕ) → IsOther y x j
    → bit_at (bits_where 64 (λ j. is_set y.bits j && not (j == x))) j ≡ 1
others-is y x j p = bits_where-has 64 (λ j. is_set y.bits j && not (j == x)) j (element_lt y j p.0)
    ((other-Decides y x j).1 p)

-- of fewer elements there are fewer others
pub without_monotone : (y y' : sets.Elements) (x : ℕ) → Below (Set y) (Set y')
    → Below (without_of y x) (without_of y' x)
without_monotone y y' x h =
    elements_below _ _ (others-lt y x)
    (λ j k. let other = others-has y' x j k in others-is y x j (h j other.0, other.1))

-- they are of the same domain
pub without_kind : (domain size : ℕ) (y : sets.Elements) (x : ℕ)
    → IsOf (kinds.Set domain) size (Set y) → IsOf (kinds.Set domain) size (without_of y x)
without_kind domain size y x h = elements_of_kind domain size _ (λ j k. h j (others-has y x j k).0)

-- each other is held
pub without_sound : (y : sets.Elements) (x j : ℕ) → HasElement y j → j ≢ x
    → Holds (without_of y x) (Element j)
without_sound y x j h other = elements_hold _ (others-lt y x) j (others-is y x j (h, other))

pub without_narrowest : (y : sets.Elements) (x : ℕ) → IsNarrowest (IsOther y x) (without_of y x)
without_narrowest y x = elements_narrowest (IsOther y x) _ (others-lt y x) (others-has y x)
    (others-is y x)

-- a word that has just the bits of the others
pub without_from_bits : (y : sets.Elements) (x word : ℕ)
    → ((j : ℕ) → bit_at word j ≡ 1 → IsOther y x j) → ((j : ℕ) → IsOther y x j → bit_at word j ≡ 1)
    → elements_from word ≡ without_of y x
without_from_bits y x word only each =
    ap elements_from (same_parts _ _ (λ j h. each j (others-has y x j h))
    (λ j h. others-is y x j (only j h)))
