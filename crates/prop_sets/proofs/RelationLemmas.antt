-- Relations are told apart by their pairs.
use Rattle.std.proofs.Common.{◌≡◌, ◌↔◌, ℕ, List, get_or, arith, ◌∙◌, sym, ap}
use Rattle.std.specs.Int.{bit_at}
use Rattle.std.proofs.lemmas.Grind.{same_number_lists}
use Rattle.prop_lattice.specs.laws.PartLaws.{same_parts}
use Rattle.prop_sets.specs.Promises.{SamePairsAreOne}
use Rattle.prop_sets.specs.Relation.{Relation, HasPair, IsWhole}
use Rattle.prop_sets.specs.inner.Ties.{AreTied}
use Rattle.prop_sets.proofs.TieLemmas.{word_within, tied_within}

pub whole_from_tied : (m : Relation) (columns : List ℕ) → AreTied m.from.size m.to.size m.rows columns → IsWhole m
whole_from_tied m columns t = record {
  each_has_one = t.height_is;
  in_range = λ i j h. (tied_within m.from.size m.to.size m.rows columns t i j h).1;
}

-- what is a pair of the one is a bit of the other
bit_from_same : (m n : Relation) → IsWhole m → ((i j : ℕ) → HasPair m i j → HasPair n i j) → (i j : ℕ)
    → bit_at (get_or m.rows i 0) j ≡ 1 → bit_at (get_or n.rows i 0) j ≡ 1
bit_from_same m n w h i j b =
    let within = word_within m.rows i j b in
    (h i j (record { first = omega (arith, w.each_has_one); second = w.in_range i j b; partners = b })).partners

same_rows : (m n : Relation) → IsWhole m → IsWhole n → m.from ≡ n.from → ((i j : ℕ) → HasPair m i j ↔ HasPair n i j)
    → m.rows ≡ n.rows
same_rows m n v w e h =
    same_number_lists m.rows n.rows (v.each_has_one ∙ ap (λ s. s.size) e ∙ sym w.each_has_one)
    (λ k l. same_parts _ _ (bit_from_same n m w (λ i j. (h i j).1) k) (bit_from_same m n v (λ i j. (h i j).0) k))

pub same_pairs : SamePairsAreOne
same_pairs m n v w e f h =
    let g = same_rows m n v w e h in
    λ t. record { from = e t; to = f t; rows = g t }
