-- The texts of premises, one more at a time.
use Rattle.std.proofs.Common.{◌≡◌, ◌∙◌, ◌+◌, ℕ, zero, suc, true, false, not, cond, List, [], ◌∷◌, ◌++◌, Some, None}
use Rattle.std.proofs.Common.{filter, slice_get, codes, decimal, refl, sym, ap, arith, append-nil}
use Rattle.std.specs.List.{range_with_len}
use Rattle.std.specs.Option.{option_map}
use Rattle.std.proofs.lemmas.List.Concat.{flat_map-append}
use Rattle.std.proofs.lemmas.List.Elements.{filter-append}
use Rattle.prop_numbers.specs.Sets.{Members}
use Rattle.prop_premises.specs.Origins.{Origin, User, Side, name_of, side_at}
use Rattle.prop_texts.specs.Texts.{premises_text}
use Rattle.prop_texts.specs.inner.Listed.{label_at}

-- ---- labels

pub label_at-user : (premises : List Origin) (p : ℕ) (name : List ℕ)
    → option_map name_of (slice_get premises p) ≡ Some name → side_at premises p ≡ None → label_at premises p ≡ name
label_at-user [] p name e h = cc
label_at-user (User n believed ∷ os) zero name e h = cc
label_at-user (Side n side sides ∷ os) zero name e h = cc
label_at-user (o ∷ os) (suc p) name e h = label_at-user os p name e h

pub label_at-side : (premises : List Origin) (p side : ℕ) (name : List ℕ)
    → option_map name_of (slice_get premises p) ≡ Some name → side_at premises p ≡ Some side →
    label_at premises p ≡ name ++ (codes "=" ++ decimal side)
label_at-side [] p side name e h = cc
label_at-side (User n believed ∷ os) zero side name e h = cc
label_at-side (Side n i sides ∷ os) zero side name e h = rw (some_is n name e, some_is i side h) refl
  where
    some_is : {X : Type 0} (a b : X) → Some a ≡ Some b → a ≡ b
    some_is a b h = cc
label_at-side (o ∷ os) (suc p) side name e h = label_at-side os p side name e h

-- ---- premises

-- one more label
pub premises_text_more : (premises : List Origin) (ps : List ℕ) (p : ℕ) (before : List ℕ)
    → before ≡ premises_text premises ps → before ++ (32 ∷ label_at premises p) ≡ premises_text premises (ps ++ p ∷ [])
premises_text_more premises ps p before is =
    let f : ℕ → List ℕ = λ q. 32 ∷ label_at premises q in
    ap (λ t. t ++ f p) is ∙ ap (λ t. premises_text premises ps ++ t) (sym (append-nil (f p)))
    ∙ sym (flat_map-append f ps (p ∷ []))

range_more : (a n : ℕ) → range_with_len a (suc n) ≡ range_with_len a n ++ (a + n) ∷ []
range_more a zero = ap (λ x. x ∷ []) (omega arith)
range_more a (suc n) =
    let at : a + 1 + n ≡ a + suc n = omega arith in
    ap (λ t. a ∷ t) (range_more (a + 1) n ∙ ap (λ x. range_with_len (a + 1) n ++ x ∷ []) at)

filtered_more : (s : Members) (k : ℕ)
    → filter s (range_with_len 0 (k + 1)) ≡ filter s (range_with_len 0 k) ++ cond (s k) (k ∷ []) []
filtered_more s k =
    let next : k + 1 ≡ suc k = omega arith in
    let last : 0 + k ≡ k = omega arith in
    ap (λ n. filter s (range_with_len 0 n)) next
    ∙ ap (filter s) (range_more 0 k ∙ ap (λ x. range_with_len 0 k ++ x ∷ []) last)
    ∙ filter-append s (range_with_len 0 k) (k ∷ [])

-- one more premise that is in the set
pub members_more : (premises : List Origin) (s : Members) (k : ℕ) (before : List ℕ) → s k ≡ true
    → before ≡ premises_text premises (filter s (range_with_len 0 k)) →
    before ++ (32 ∷ label_at premises k) ≡ premises_text premises (filter s (range_with_len 0 (k + 1)))
members_more premises s k before h is =
    premises_text_more premises (filter s (range_with_len 0 k)) k before is
    ∙ ap (premises_text premises) (sym (filtered_more s k
    ∙ ap (λ b. filter s (range_with_len 0 k) ++ cond b (k ∷ []) []) h))

-- and one that is not
pub members_same : (premises : List Origin) (s : Members) (k : ℕ) (before : List ℕ) → s k ≡ false
    → before ≡ premises_text premises (filter s (range_with_len 0 k)) →
    before ≡ premises_text premises (filter s (range_with_len 0 (k + 1)))
members_same premises s k before h is =
    is ∙ ap (premises_text premises) (sym
    (filtered_more s k ∙ ap (λ b. filter s (range_with_len 0 k) ++ cond b (k ∷ []) []) h
    ∙ append-nil (filter s (range_with_len 0 k))))
