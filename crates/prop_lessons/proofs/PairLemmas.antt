-- Relations whose elements have the same partners.
use Rattle.std.proofs.Common.{◌≡◌, ℕ, ◌^◌, ◌<◌, ◌↔◌, inl, inr, subst, sym, ap, arith}
use Rattle.std.specs.Int.{bit_at}
use Rattle.std.proofs.lemmas.Bool.{cases_eq}
use Rattle.std.proofs.lemmas.Nat.Bits.{bit_at-pow_other, bit_at-pow_same}
use Rattle.prop_lattice.specs.Points.{Element, Holds}
use Rattle.prop_lattice.specs.declared.elements.Elements as sets
use Rattle.prop_lattice.specs.declared.info.Info.{Info}
use Rattle.prop_sets.specs.Images.{HoldsJust, IsInImage}
use Rattle.prop_sets.specs.Relation.{HasPair, IsWhole, Relation}
use Rattle.prop_sets.proofs.RelationLemmas.{same_pairs}

only_bit : (bits i j : ℕ) → bits ≡ 2 ^ i → bit_at bits j ≡ 1 → j ≡ i
only_bit bits i j e h = elim (cases_eq j i) [
  | inl same ↦ same
  | inr other ↦ absurd (omega (arith, h, ap (λ b. bit_at b j) e, bit_at-pow_other i j other))
]

own_bit : (bits i : ℕ) → bits ≡ 2 ^ i → bit_at bits i ≡ 1
own_bit bits i e = omega (arith, ap (λ b. bit_at b i) e, bit_at-pow_same i)

pair_along : (m n : Relation) (x : sets.Elements) (i j : ℕ) (a b : Info) → x.bits ≡ 2 ^ i → HoldsJust (IsInImage m x) a
    → HoldsJust (IsInImage n x) b → a ≡ b → HasPair m i j → HasPair n i j
pair_along m n x i j a b e h k same pair =
    let P : Info → Type 0 = λ r. Holds r (Element j) in
    let there = (k j).0 (subst P same ((h j).1 (i, own_bit x.bits i e, pair))) in
    let Q : ℕ → Type 0 = λ q. HasPair n q j in
    subst Q (only_bit x.bits i there.0 e there.1) there.2

-- where the images of one element are the same, so are its partners
pub same_partners : (m n : Relation) (x : sets.Elements) (i : ℕ) (a b : Info) → x.bits ≡ 2 ^ i
    → HoldsJust (IsInImage m x) a → HoldsJust (IsInImage n x) b → a ≡ b → (j : ℕ) → HasPair m i j ↔ HasPair n i j
same_partners m n x i a b e h k same j =
    (pair_along m n x i j a b e h k same, pair_along n m x i j b a e k h (sym same))

-- relations between the same domains are the same where the elements of the first have the same partners
pub same_relations : (m n : Relation) → IsWhole m → IsWhole n → m.from ≡ n.from → m.to ≡ n.to
    → ((i j : ℕ) → i < m.from.size → HasPair m i j ↔ HasPair n i j) → m ≡ n
same_relations m n v w e f h = same_pairs m n v w e f (λ i j. (
  (λ pair. (h i j pair.first).0 pair),
  (λ pair. (h i j (omega (arith, pair.first, ap (λ s. s.size) e))).1 pair),
))
