-- The union of the rows, or of the columns, of some elements is what they are paired with.
use Rattle.std.proofs.Common.{◌≡◌, ℕ, List, get_or}
use Rattle.std.specs.Int.{bit_at}
use Rattle.prop_lattice.specs.Ends.{elements_from}
use Rattle.prop_lattice.specs.declared.elements.Elements as sets
use Rattle.prop_sets.specs.Images.{IsInImage, IsInCoimage, image_of, coimage_of}
use Rattle.prop_sets.specs.laws.ImageLaws.{image_from_bits, coimage_from_bits}
use Rattle.prop_sets.specs.Relation.{Relation}
use Rattle.prop_sets.specs.inner.Ties.{AreTied}
use Rattle.prop_sets.specs.inner.Words.{IsUnionOf}
use Rattle.prop_sets.proofs.TieLemmas.{tied_within}

pub image_from_union : (m : Relation) (columns : List ℕ) (x : sets.Elements) (union : ℕ)
    → AreTied m.from.size m.to.size m.rows columns → IsUnionOf m.rows x.bits union → elements_from union ≡ image_of m x
image_from_union m columns x union t u = image_from_bits m x union only (λ j p. u.from_each p.0 j p.1 p.2.partners)
  where
    only : (j : ℕ) → bit_at union j ≡ 1 → IsInImage m x j
    only j h =
        let found = u.from_words j h in
        let within = tied_within m.from.size m.to.size m.rows columns t found.0 j found.1.1 in
        (found.0, found.1.0, record { first = within.0; second = within.1; partners = found.1.1 })

pub coimage_from_union : (m : Relation) (columns : List ℕ) (y : sets.Elements) (union : ℕ)
    → AreTied m.from.size m.to.size m.rows columns → IsUnionOf columns y.bits union
    → elements_from union ≡ coimage_of m y
coimage_from_union m columns y union t u =
    coimage_from_bits m y union only (λ i p. u.from_each p.0 i p.1 (t.across i p.0 p.2.partners))
  where
    only : (i : ℕ) → bit_at union i ≡ 1 → IsInCoimage m y i
    only i h =
        let found = u.from_words i h in
        let row : bit_at (get_or m.rows i 0) found.0 ≡ 1 = t.back found.0 i found.1.1 in
        let within = tied_within m.from.size m.to.size m.rows columns t i found.0 row in
        (found.0, found.1.0, record { first = within.0; second = within.1; partners = row })
