-- A constant leaves its point alone.
use Rattle.std.proofs.Common.{◌≡◌, ◌≢◌, ◌⊎◌, ℕ, ℤ, neg_ℤ, ◌≤ℤ◌, ◌^◌, List, Bool, true, false, cond}
use Rattle.std.proofs.Common.{nat_lt, inl, inr, refl, ap, sym, subst, arith}
use Rattle.std.specs.List.{AllByRecursion}
use Rattle.std.specs.Int.{bit_at}
use Rattle.std.proofs.lemmas.Bool.{lt-ltb}
use Rattle.std.proofs.lemmas.Bool.{cases_eq}
use Rattle.std.proofs.lemmas.Int.{ints}
use Rattle.std.proofs.lemmas.Nat.Bits.{bit_at-pow_same, bit_at-pow_other, bit_at-zero}
use Rattle.std.proofs.Math.Pow.{pow-lt}
use Rattle.prop_lattice.specs.Ends.{AreEnds, ends_or_not, some_or_not, span_from, elements_from}
use Rattle.prop_lattice.specs.inner.Ends.{AreSome, span_if, elements_if}
use Rattle.prop_lattice.specs.Points.{Point, Number, Element, Symbol, Holds, IsPointOf}
use Rattle.prop_lattice.specs.declared.info.Info.TheVariants.{Sym}
use Rattle.prop_lattice.specs.declared.span.TheConstants.{B}
use Rattle.prop_intervals.specs.laws.ClipLaws.{span_from_holds}
use Rattle.prop_sets.specs.laws.NarrowestLaws.{elements_hold}
use Rattle.prop_procedures.specs.declared.shape.Kinded.{Kinded}
use Rattle.prop_meaning.specs.Words.{Lexicon}
use Rattle.prop_meaning.specs.declared.draft.Made.{Made}
use Rattle.prop_meaning.specs.declared.steps.Step.{Step}
use Rattle.prop_meaning.specs.declared.steps.Step.TheVariants as steps
use Rattle.prop_meaning.specs.inner.Drafts.{Suits, number_kind}
use Rattle.prop_meaning.specs.inner.Expanding.{constants_of}
use Rattle.prop_meaning.specs.inner.Steps.{made_by}

number_held : (z : ℤ) (p : Point) → Holds (span_from z z) p → p ≡ Number z
unfolding span_from
number_held z p h = by (ends_or_not z z) p h
  where
    by : (d : AreEnds z z ⊎ ¬ (AreEnds z z)) (p : Point) → Holds (span_if z z d) p → p ≡ Number z
    by (inl e) (Number v) h = ap Number (between v h.0 h.1)
      where
        between : (v : ℤ) → z ≤ℤ v → v ≤ℤ z → v ≡ z
        between v l g = omega (arith, ints)
    by (inl e) (Element i) h = absurd h
    by (inl e) (Symbol n) h = absurd h
    by (inr f) p h = absurd h

only_element : (bits : ℕ) (p : Point) → Holds (elements_from bits) p → (i : ℕ) → ((j : ℕ) → bit_at bits j ≡ 1 → j ≡ i)
    → p ≡ Element i
unfolding elements_from
only_element bits p h i only = by (some_or_not bits) p h
  where
    by : (d : AreSome bits ⊎ ¬ (AreSome bits)) (p : Point) → Holds (elements_if bits d) p → p ≡ Element i
    by (inl e) (Element j) h = ap Element (only j h)
    by (inl e) (Number v) h = absurd h
    by (inl e) (Symbol n) h = absurd h
    by (inr f) p h = absurd h

one_bit : (i j : ℕ) → bit_at (2 ^ i) j ≡ 1 → j ≡ i
one_bit i j h = by (cases_eq j i)
  where
    by : (j ≡ i) ⊎ (j ≢ i) → j ≡ i
    by (inl same) = same
    by (inr other) = absurd (omega (arith, h, bit_at-pow_other i j other))

guarded : (i : ℕ) (b : Bool) → nat_lt i 64 ≡ b → (j : ℕ) → bit_at (cond b (2 ^ i) 0) j ≡ 1 → j ≡ i
guarded i true e j h = one_bit i j h
guarded i false e j h = absurd (omega (arith, h, bit_at-zero j))

abbrev Constants : (ℕ → Point) → Step → ℕ → Type 0
Constants a s place = AllByRecursion (λ c. Holds c.1 (a c.0)) (constants_of s place)

in_range : (kinded : Kinded) (z : ℤ) (p : Point) → kinded ≡ number_kind → IsPointOf kinded.kind
    kinded.size p → p ≡ Number z
    → (neg_ℤ B ≤ℤ z) × (z ≤ℤ B)
in_range kinded z p k h e =
    let P : Kinded → Type 0 = λ n. IsPointOf n.kind n.size p in
    let Q : Point → Type 0 = λ q. IsPointOf number_kind.kind 0 q in
    subst Q e (subst P k h)

pub constant_forth : (lexicon : Lexicon) (made : List Made) (kinded : Kinded) (s : Step) (a : ℕ → Point) (place : ℕ)
    → Suits lexicon made kinded s → IsPointOf kinded.kind kinded.size (a place) → a place ≡ made_by s a
    → Constants a s place
constant_forth lexicon made kinded (steps.Number z) a place suits h e =
    let range = in_range kinded z (a place) suits h e in
    let P : Point → Type 0 = λ p. Holds (span_from z z) p in
    (subst P (sym e) (span_from_holds z z z (omega (arith, ints)) (omega (arith, ints)) range.0 range.1), tt)
constant_forth lexicon made kinded (steps.Element i) a place suits h e =
    let P : Point → Type 0 = λ p. Holds (elements_from (cond (nat_lt i 64) (2 ^ i) 0)) p in
    let Q : Bool → Type 0 = λ b. Holds (elements_from (cond b (2 ^ i) 0)) (Element i) in (
      subst P (sym e) (subst Q (sym (lt-ltb i 64 suits))
          (elements_hold (2 ^ i) (pow-lt suits) i (bit_at-pow_same i))),
      tt,
    )
constant_forth lexicon made kinded (steps.Symbol n) a place suits h e =
    let P : Point → Type 0 = λ p. Holds (Sym n) p in
    (subst P (sym e) refl, tt)
constant_forth lexicon made kinded (steps.One op x) a place suits h e = tt
constant_forth lexicon made kinded (steps.Two op x y) a place suits h e = tt
constant_forth lexicon made kinded (steps.Choice t x y) a place suits h e = tt
constant_forth lexicon made kinded (steps.Quotient x y) a place suits h e = tt
constant_forth lexicon made kinded (steps.Left x p y) a place suits h e = tt

symbol_held : (n : ℕ) (p : Point) → Holds (Sym n) p → p ≡ Symbol n
symbol_held n (Symbol m) h = ap Symbol (sym h)
symbol_held n (Number z) h = absurd h
symbol_held n (Element i) h = absurd h

pub number_back : (z : ℤ) (a : ℕ → Point) (place : ℕ) → Constants a (steps.Number z) place → a place ≡ Number z
number_back z a place h = number_held z (a place) h.0

pub element_back : (i : ℕ) (a : ℕ → Point) (place : ℕ) → Constants a (steps.Element i) place → a place ≡ Element i
element_back i a place h = only_element _ (a place) h.0 i (guarded i (nat_lt i 64) refl)

pub symbol_back : (n : ℕ) (a : ℕ → Point) (place : ℕ) → Constants a (steps.Symbol n) place → a place ≡ Symbol n
symbol_back n a place h = symbol_held n (a place) h.0
