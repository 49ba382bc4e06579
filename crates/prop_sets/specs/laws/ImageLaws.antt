-- The laws of images.
use Rattle.std.specs.Prelude.{◌≡◌, ℕ, ◌<◌, ◌≤◌, ◌^◌, Bool, true, ◌&&◌, slice_index}
use Rattle.std.specs.Bool.{Decides}
use Rattle.std.specs.Int.{bit_at}
use Rattle.std.proofs.Common.{arith, ap, eqb-true, eq-eqb}
use Rattle.std.proofs.Math.Pow.{pow_mono}
use Rattle.std.proofs.lemmas.Bool.Decides.{Decides-eqb, Decides-and}
use Rattle.prop_lattice.specs.Ends.{elements_from}
use Rattle.prop_lattice.specs.Order.{Below, HasElement}
use Rattle.prop_lattice.specs.laws.PartLaws.{same_parts}
use Rattle.prop_lattice.specs.laws.Parts.{HasBitsOf}
use Rattle.prop_lattice.specs.Points.{Element, Holds}
use Rattle.prop_lattice.specs.Rank.{IsOf}
use Rattle.prop_lattice.specs.declared.elements.Elements as sets
use Rattle.prop_lattice.specs.declared.info.Info.TheVariants.{Set}
use Rattle.prop_lattice.specs.declared.info.Kind.TheVariants as kinds
use Rattle.prop_sets.specs.Chosen.{any_below}
use Rattle.prop_sets.specs.laws.ChosenLaws.{bits_where-lt, bits_where-passes, bits_where-has}
use Rattle.prop_sets.specs.laws.ChosenLaws.{any_below-Decides}
use Rattle.prop_sets.specs.Images.{IsInImage, IsInCoimage, image_of}
use Rattle.prop_sets.specs.inner.Words.{is_set}
use Rattle.prop_sets.specs.Images.{coimage_of, HoldsJust}
use Rattle.prop_sets.specs.inner.Words.{partner_bits}
use Rattle.prop_sets.specs.Narrowest.{IsNarrowest}
use Rattle.prop_sets.specs.laws.NarrowestLaws.{elements_hold, bit_from_held, elements_below}
use Rattle.prop_sets.specs.laws.NarrowestLaws.{elements_of_kind, elements_narrowest}
use Rattle.prop_sets.specs.Relation.{Relation, HasPair}

-- ---- partners

chosen_and : (bits : ℕ) (paired : ℕ → ℕ → Bool) (j i : ℕ)
    → Decides (is_set bits i && paired i j) ((bit_at bits i ≡ 1) × (paired i j ≡ true))
chosen_and bits paired j i = Decides-and (is_set bits i) (paired i j)
    (Decides-eqb (bit_at bits i) 1) ((λ h. h), (λ h. h))

pub partners-has : (n m : ℕ) (paired : ℕ → ℕ → Bool) (bits j : ℕ)
    → bit_at (partner_bits n m paired bits) j ≡ 1
    → (j < n) × ((i : ℕ) × (i < m) × ((bit_at bits i ≡ 1) × (paired i j ≡ true)))
partners-has n m paired bits j h =
    let passes = bits_where-passes n (λ k. any_below m (λ i. is_set bits i && paired i k)) j h in (
      passes.0,
      (any_below-Decides (λ i. is_set bits i && paired i j)
          (λ i. (bit_at bits i ≡ 1) × (paired i j ≡ true)) (chosen_and bits paired j) m).0 passes.1,
    )

pub partners-is : (n m : ℕ) (paired : ℕ → ℕ → Bool) (bits j i : ℕ) → j < n → i < m
    → bit_at bits i ≡ 1 → paired i j ≡ true → bit_at (partner_bits n m paired bits) j ≡ 1
partners-is n m paired bits j i l k h p =
    bits_where-has n (λ k. any_below m (λ i. is_set bits i && paired i k)) j l
    ((any_below-Decides (λ i. is_set bits i && paired i j)
    (λ i. (bit_at bits i ≡ 1) × (paired i j ≡ true)) (chosen_and bits paired j) m).1
    (i, k, (h, p)))

-- there are no more of them than a word has bits
pub partners-lt : (n m : ℕ) (paired : ℕ → ℕ → Bool) (bits : ℕ) → n ≤ 64
    → partner_bits n m paired bits < 2 ^ 64
partners-lt n m paired bits l =
    let fits = bits_where-lt n (λ k. any_below m (λ i. is_set bits i && paired i k)) in
    let most : 2 ^ n ≤ 2 ^ 64 = pow_mono l in
    omega arith

partners-more : (n m : ℕ) (paired : ℕ → ℕ → Bool) (a b : ℕ) → HasBitsOf a b
    → HasBitsOf (partner_bits n m paired a) (partner_bits n m paired b)
partners-more n m paired a b h j k =
    let found = partners-has n m paired b j k in
    partners-is n m paired a j found.1.0 found.0 found.1.1 (h found.1.0 found.1.2.0) found.1.2.1

is_set-true : (bits i : ℕ) → bit_at bits i ≡ 1 → is_set bits i ≡ true
is_set-true bits i h = eq-eqb (bit_at bits i) 1 h

-- ---- images

image_has : (m : Relation) (x : sets.Elements) (j : ℕ)
    → bit_at (partner_bits m.to.size m.from.size (λ i j. is_set (slice_index m.rows i) j) x.bits)
    j ≡ 1 → IsInImage m x j
image_has m x j h =
    let found = partners-has m.to.size m.from.size (λ i j. is_set (slice_index m.rows i) j) x.bits j
    h in (
      found.1.0,
      found.1.2.0,
      record {
        first = found.1.1;
        second = found.0;
        partners = eqb-true _ _ found.1.2.1;
      },
    )

image_is : (m : Relation) (x : sets.Elements) (j : ℕ) → IsInImage m x j
    → bit_at (partner_bits m.to.size m.from.size (λ i j. is_set (slice_index m.rows i) j) x.bits)
    j ≡ 1
image_is m x j p =
    partners-is m.to.size m.from.size (λ i j. is_set (slice_index m.rows i) j) x.bits j p.0
    p.2.second p.2.first p.1 (is_set-true _ _ p.2.partners)

image_fits : (m : Relation) (x : sets.Elements)
    → partner_bits m.to.size m.from.size (λ i j. is_set (slice_index m.rows i) j) x.bits < 2 ^ 64
image_fits m x = partners-lt m.to.size m.from.size (λ i j. is_set (slice_index m.rows i) j) x.bits
    m.to.fits

-- of fewer elements the image has fewer
pub image_monotone : (m : Relation) (a c : sets.Elements) → Below (Set a) (Set c)
    → Below (image_of m a) (image_of m c)
image_monotone m a c h =
    elements_below _ _ (image_fits m a)
    (partners-more m.to.size m.from.size (λ i j. is_set (slice_index m.rows i) j) a.bits c.bits
    h)

-- it is a set of the second domain
pub image_kind : (domain : ℕ) (m : Relation) (x : sets.Elements)
    → IsOf (kinds.Set domain) m.to.size (image_of m x)
image_kind domain m x = elements_of_kind domain m.to.size _ (λ j h. (image_has m x j h).2.second)

-- it holds what is paired with an element
pub image_sound : (m : Relation) (x : sets.Elements) (i j : ℕ) → HasElement x i → HasPair m i j
    → Holds (image_of m x) (Element j)
image_sound m x i j h p = elements_hold _ (image_fits m x) j (image_is m x j (i, h, p))

-- and nothing else
pub image_just : (m : Relation) (x : sets.Elements) → HoldsJust (IsInImage m x) (image_of m x)
image_just m x j = (λ h. image_has m x j (bit_from_held _ j h), λ p. image_sound m x p.0 j p.1 p.2)

pub image_narrowest : (m : Relation) (x : sets.Elements)
    → IsNarrowest (IsInImage m x) (image_of m x)
image_narrowest m x = elements_narrowest (IsInImage m x) _ (image_fits m x) (image_has m x)
    (image_is m x)

-- ---- images the other way

coimage_has : (m : Relation) (y : sets.Elements) (i : ℕ)
    → bit_at (partner_bits m.from.size m.to.size (λ j i. is_set (slice_index m.rows i) j) y.bits)
    i ≡ 1 → IsInCoimage m y i
coimage_has m y i h =
    let found = partners-has m.from.size m.to.size (λ j i. is_set (slice_index m.rows i) j) y.bits i
    h in (
      found.1.0,
      found.1.2.0,
      record {
        first = found.0;
        second = found.1.1;
        partners = eqb-true _ _ found.1.2.1;
      },
    )

coimage_is : (m : Relation) (y : sets.Elements) (i : ℕ) → IsInCoimage m y i
    → bit_at (partner_bits m.from.size m.to.size (λ j i. is_set (slice_index m.rows i) j) y.bits)
    i ≡ 1
coimage_is m y i p =
    partners-is m.from.size m.to.size (λ j i. is_set (slice_index m.rows i) j) y.bits i p.0
    p.2.first p.2.second p.1 (is_set-true _ _ p.2.partners)

coimage_fits : (m : Relation) (y : sets.Elements)
    → partner_bits m.from.size m.to.size (λ j i. is_set (slice_index m.rows i) j) y.bits < 2 ^ 64
coimage_fits m y = partners-lt m.from.size m.to.size (λ j i. is_set (slice_index m.rows i) j) y.bits
    m.from.fits

-- of fewer elements the image has fewer
pub coimage_monotone : (m : Relation) (a c : sets.Elements) → Below (Set a) (Set c)
    → Below (coimage_of m a) (coimage_of m c)
coimage_monotone m a c h =
    elements_below _ _ (coimage_fits m a)
    (partners-more m.from.size m.to.size (λ j i. is_set (slice_index m.rows i) j) a.bits c.bits
    h)

-- it is a set of the first domain
pub coimage_kind : (domain : ℕ) (m : Relation) (y : sets.Elements)
    → IsOf (kinds.Set domain) m.from.size (coimage_of m y)
coimage_kind domain m y = elements_of_kind domain m.from.size _
    (λ i h. (coimage_has m y i h).2.first)

-- it holds what is paired with an element
pub coimage_sound : (m : Relation) (y : sets.Elements) (j i : ℕ) → HasElement y j → HasPair m i j
    → Holds (coimage_of m y) (Element i)
coimage_sound m y j i h p = elements_hold _ (coimage_fits m y) i (coimage_is m y i (j, h, p))

-- and nothing else
pub coimage_just : (m : Relation) (y : sets.Elements) → HoldsJust (IsInCoimage m y) (coimage_of m y)
coimage_just m y i = (
  λ h. coimage_has m y i (bit_from_held _ i h),
  λ p. coimage_sound m y p.0 i p.1 p.2,
)

pub coimage_narrowest : (m : Relation) (y : sets.Elements)
    → IsNarrowest (IsInCoimage m y) (coimage_of m y)
coimage_narrowest m y = elements_narrowest (IsInCoimage m y) _ (coimage_fits m y) (coimage_has m y)
    (coimage_is m y)

-- ---- where a word is the image

-- the word has just the bits of the partners
pub image_from_bits : (m : Relation) (x : sets.Elements) (word : ℕ)
    → ((j : ℕ) → bit_at word j ≡ 1 → IsInImage m x j)
    → ((j : ℕ) → IsInImage m x j → bit_at word j ≡ 1) → elements_from word ≡ image_of m x
image_from_bits m x word only each =
    ap elements_from (same_parts _ _ (λ j h. each j (image_has m x j h))
    (λ j h. image_is m x j (only j h)))

pub coimage_from_bits : (m : Relation) (y : sets.Elements) (word : ℕ)
    → ((i : ℕ) → bit_at word i ≡ 1 → IsInCoimage m y i)
    → ((i : ℕ) → IsInCoimage m y i → bit_at word i ≡ 1) → elements_from word ≡ coimage_of m y
coimage_from_bits m y word only each =
    ap elements_from (same_parts _ _ (λ i h. each i (coimage_has m y i h))
    (λ i h. coimage_is m y i (only i h)))
