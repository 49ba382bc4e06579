-- A relation that is made of pairs of names has just these pairs.
use Rattle.std.proofs.Common.{◌≡◌, ◌∙◌, ◌↔◌, ◌⊎◌, ℕ, ◌<◌, ◌≤◌, ◌^◌, false, List, [], ◌∷◌, Option, Some, None, length}
use Rattle.std.proofs.Common.{get_or, replicate, bit_or, is_none, unwrap_or, inl, inr, refl, sym, ap, arith, length-set}
use Rattle.std.proofs.Common.{lit≤}
use Rattle.std.specs.Int.{bit_at}
use Rattle.std.proofs.lemmas.Bool.{or_parts, cases_lt}
use Rattle.std.proofs.lemmas.List.{get_or_past, get_or-replicate, length-replicate}
use Rattle.std.proofs.lemmas.Nat.Bits.{bit_at-zero}
use Rattle.std.proofs.lemmas.Option.{slice_get_past}
use Rattle.prop_sets.specs.Relation.{Relation, HasPair, no_pairs, with_pair}
use Rattle.prop_sets.specs.declared.side.Side as sides
use Rattle.prop_sets.proofs.TieLemmas.{adds-pair}
use Rattle.prop_vocabulary.specs.Names.{number_in}
use Rattle.prop_vocabulary.specs.Promises.{IsNamedPair, HasJust, HaveJustTheirPairs}
use Rattle.prop_vocabulary.specs.Pairs.{is_outside}
use Rattle.prop_vocabulary.specs.inner.Between.{place_of, with_pairs}
use Rattle.prop_vocabulary.specs.inner.Named.{is_pair_outside}
use Rattle.prop_vocabulary.specs.Vocabulary.{Vocabulary, domain_number, elements_at, elements_of, side_at, IsWhole}
use Rattle.prop_vocabulary.proofs.Lookups.{number_below}
use Rattle.prop_vocabulary.proofs.RefusalLemmas.{nothing_outside}
use Rattle.prop_vocabulary.proofs.SideLemmas.{side_at-size}
use Rattle.prop_vocabulary.proofs.WholeLemmas.{elements-are}

no_bit : (n i j : ℕ) → bit_at (get_or (replicate n 0) i 0) j ≡ 0
no_bit n i j = by (cases_lt i n)
  where
    by : (i < n) ⊎ (n ≤ i) → bit_at (get_or (replicate n 0) i 0) j ≡ 0
    by (inl l) = rw (get_or-replicate {A = ℕ} n i 0 0 l) (bit_at-zero j)
    by (inr past) = rw (get_or_past {X = ℕ} (replicate n 0) i 0 (omega (arith, past, length-replicate {A = ℕ} n 0)))
        (bit_at-zero j)

found : (names : List (List ℕ)) (name : List ℕ) (o : Option ℕ) → number_in names name ≡ o → is_none o ≡ false
    → number_in names name ≡ Some (place_of names name)
found names name None e f = cc
found names name (Some n) e f = e ∙ ap Some (sym (ap (λ o. unwrap_or o 0) e))

-- with one pair and then others
also : (first second : List (List ℕ)) (m : Relation) (pairs : List (List ℕ × List ℕ)) → m.from.size ≡ length first
    → m.to.size ≡ length second → length m.rows ≡ m.from.size → is_outside first second pairs ≡ false →
    (i j : ℕ) → HasPair (with_pairs first second m pairs) i j ↔ (HasPair m i j ⊎ IsNamedPair first second pairs i j)
also first second m [] e f g h i j = (inl, elim [ inl had ↦ had | inr none ↦ absurd none ])
also first second m (pair ∷ pairs) e f g h i j =
    let parts = or_parts (is_pair_outside first second pair) (is_outside first second pairs) h in
    let words = or_parts (is_none (number_in first pair.0)) (is_none (number_in second pair.1)) parts.0 in
    let a = place_of first pair.0 in
    let b = place_of second pair.1 in
    let at_a : number_in first pair.0 ≡ Some a = found first pair.0 (number_in first pair.0) refl words.0 in
    let at_b : number_in second pair.1 ≡ Some b = found second pair.1 (number_in second pair.1) refl words.1 in
    let below_a : a < m.from.size = omega (arith, e, number_below first pair.0 a at_a) in
    let below_b : b < m.to.size = omega (arith, f, number_below second pair.1 b at_b) in
    let one = adds-pair m a b below_a below_b g i j in
    let rest = also first second (with_pair m a b) pairs e f
    (length-set m.rows a (bit_or (get_or m.rows a 0) (2 ^ b)) ∙ g) parts.1 i j in
    (λ p. apart a b at_a at_b (rest.0 p) one.0, λ p. rest.1 (together a b at_a at_b p one.1))
  where
    apart : (a b : ℕ) → number_in first pair.0 ≡ Some a → number_in second pair.1 ≡ Some b
        → HasPair (with_pair m a b) i j ⊎ IsNamedPair first second pairs i j →
        (HasPair (with_pair m a b) i j → HasPair m i j ⊎ ((i ≡ a) × (j ≡ b)))
        → HasPair m i j ⊎ IsNamedPair first second (pair ∷ pairs) i j
    apart a b p q (inr later) one = inr (inr later)
    apart a b p q (inl now) one = elim (one now)
        [ inl old ↦ inl old | inr new ↦ inr (inl (p ∙ ap Some (sym new.0), q ∙ ap Some (sym new.1))) ]

    same_some : {X : Type 0} {x y : X} → Some x ≡ Some y → x ≡ y
    same_some e = cc

    together : (a b : ℕ) → number_in first pair.0 ≡ Some a → number_in second pair.1 ≡ Some b
        → HasPair m i j ⊎ IsNamedPair first second (pair ∷ pairs) i j →
        (HasPair m i j ⊎ ((i ≡ a) × (j ≡ b)) → HasPair (with_pair m a b) i j)
        → HasPair (with_pair m a b) i j ⊎ IsNamedPair first second pairs i j
    together a b p q (inl old) one = inl (one (inl old))
    together a b p q (inr (inr later)) one = inr later
    together a b p q (inr (inl named)) one = inl (one (inr (same_some (sym named.0 ∙ p), same_some (sym named.1 ∙ q))))

-- a relation between the two domains that is made of the pairs
pub just_pairs : (first second : List (List ℕ)) (from to : sides.Side) (pairs : List (List ℕ × List ℕ))
    → from.size ≡ length first → to.size ≡ length second → is_outside first second pairs ≡ false →
    HasJust first second pairs (with_pairs first second (no_pairs from to) pairs)
just_pairs first second from to pairs e f h i j =
    let all = also first second (no_pairs from to) pairs e f (length-replicate {A = ℕ} from.size 0) h i j in (
      λ p. elim (all.0 p) [ inl none ↦ absurd (omega (arith, none.partners, no_bit from.size i j)) | inr named ↦ named ],
      λ p. all.1 (inr p),
    )

few_at : (v : Vocabulary) (d : ℕ) → IsWhole v → length (elements_at v.domains d) ≤ 64
few_at v d w = by (cases_lt d (length v.domains))
  where
    by : (d < length v.domains) ⊎ (length v.domains ≤ d) → length (elements_at v.domains d) ≤ 64
    by (inl l) = (elements-are v d w l).few
    by (inr past) = rw (slice_get_past v.domains d past) (lit≤ tt)

pub just_their_pairs : HaveJustTheirPairs
just_their_pairs v from to pairs w e =
    let a = unwrap_or (domain_number v from) 0 in
    let b = unwrap_or (domain_number v to) 0 in
    let outside = nothing_outside v from to pairs e in
    just_pairs (elements_of v a) (elements_of v b) (side_at v a) (side_at v b) pairs
    (side_at-size v a (few_at v a w)) (side_at-size v b (few_at v b w)) outside
