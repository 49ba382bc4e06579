-- What the values that were looked at are to a new entry.
use Rattle.std.proofs.Common.{◌≡◌, ◌+◌, ◌<◌, ◌||◌, ◌&&◌, ℕ, Bool, true, false, List, [], ◌∷◌, length, take, get_or}
use Rattle.std.proofs.Common.{◌≢◌, ◌++◌, refl, sym, subst, All, AllPairs, Any, append-nil, inl, inr}
use Rattle.std.specs.List.{list_any}
use Rattle.std.proofs.lemmas.List.Elements.{All-nil, All-cons, All-head, All-tail}
use Rattle.std.proofs.lemmas.List.Quantifiers.{all_pairs_push}
use Rattle.prop_numbers.specs.Sets.{set_of, is_within, is_alike}
use Rattle.prop_tms.specs.Beliefs.{Subsumes}
use Rattle.prop_tms.specs.Kept.{IsLeftWithout}
use Rattle.prop_tms.specs.Values.{entries_of, entries_of_one}
use Rattle.prop_tms.specs.inner.Values.{values_of, AreApart}
use Rattle.prop_tms.specs.declared.supported.Supported.{Supported}
use Rattle.prop_tms.specs.declared.values.Valued.{Valued}
use Rattle.prop_tms.proofs.ValueLemmas.{any_append, entries_of-more, left_append, left_other, subsumes_any}

-- where none of the supports is part of this one, none has the same premises
pub no_part : (t : List ℕ) (ss : List (List ℕ)) → list_any (λ s. is_within (set_of t) s) ss ≡ false
    → list_any (λ s. is_alike s t) ss ≡ false
no_part t [] h = refl
no_part t (s ∷ ss) h = by (is_within (set_of t) s) (is_within (set_of s) t) h (λ k. no_part t ss k)
  where
    by : (b c : Bool) → (b || list_any (λ s. is_within (set_of t) s) ss) ≡ false
        → (list_any (λ s. is_within (set_of t) s) ss ≡ false → list_any (λ s. is_alike s t) ss ≡ false)
        → ((b && c) || list_any (λ s. is_alike s t) ss) ≡ false
    by true c h ih = cc
    by false c h ih = ih h

-- what subsumes the entry is none of the first values, and none of the next
pub unknown_more : {V : Type 0} (below : V → V → Type 0) (e : Supported V) (xs : List (Valued V)) (i : ℕ) (x : Valued V)
    → i < length xs → x ≡ get_or xs i x → ¬ (Any (λ y. Subsumes below y e) (entries_of (take i xs)))
    → (below e.value x.value → list_any (λ s. is_within (set_of e.support) s) x.supports.items ≡ false)
    → ¬ (Any (λ y. Subsumes below y e) (entries_of (take (i + 1) xs)))
unknown_more below e xs i x l is none apart h =
    elim (any_append (λ y. Subsumes below y e) (entries_of (take i xs)) (entries_of_one x)
    (subst (Any (λ y. Subsumes below y e)) (entries_of-more xs i x l is) h)) [
      | inl some ↦ none some
      | inr some ↦ (let both = subsumes_any below x.value x.supports.items e some in
          let off = apart both.0 in
          let on = both.1 in
          cc)
    ]

-- what says not all of any value subsumes no entry
pub none_left : {V : Type 0} (below : V → V → Type 0) (m : Supported V) (xs : List (Valued V))
    → All (λ x. ¬ (below x.value m.value)) xs → IsLeftWithout (Subsumes below m) (entries_of xs) (entries_of xs ++ [])
none_left below m xs apart =
    subst (IsLeftWithout (Subsumes below m) (entries_of xs)) (sym (append-nil (entries_of xs))) (go xs apart)
  where
    go : (ys : List (Valued _)) → All (λ x. ¬ (below x.value m.value)) ys
        → IsLeftWithout (Subsumes below m) (entries_of ys) (entries_of ys)
    go [] h = refl
    go (y ∷ ys) h = left_append (Subsumes below m) (entries_of_one y) (entries_of_one y) (entries_of ys) (entries_of ys)
        (left_other below m y.value y.supports.items (All-head (λ x. ¬ (below x.value m.value)) y ys h))
        (go ys (All-tail (λ x. ¬ (below x.value m.value)) y ys h))

-- and its value stands apart
pub apart_last : {V : Type 0} (below : V → V → Type 0) (reflexive : (a : V) → below a a) (xs : List (Valued V)) (v : V)
    → All (λ x. ¬ (below x.value v)) xs → AreApart xs → AllPairs (λ a b. a ≢ b) (values_of xs ++ v ∷ [])
apart_last below reflexive xs v new apart =
    all_pairs_push (λ a b. a ≢ b) (values_of xs) v apart (go xs new)
  where
    go : (ys : List (Valued _)) → All (λ x. ¬ (below x.value v)) ys → All (λ w. w ≢ v) (values_of ys)
    go [] h = All-nil (λ w. w ≢ v)
    go (y ∷ ys) h = All-cons (λ w. w ≢ v) y.value (values_of ys)
        (λ is. All-head (λ x. ¬ (below x.value v)) y ys h (subst (below y.value) is (reflexive y.value)))
        (go ys (All-tail (λ x. ¬ (below x.value v)) y ys h))

pub is_off : (b : Bool) → (b ≡ true → ⊥) → b ≡ false
is_off true h = absurd (h refl)
is_off false h = refl
