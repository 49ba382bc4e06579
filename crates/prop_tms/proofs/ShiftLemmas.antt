-- Entries that are believed in both of two worldviews or in neither.
use Rattle.std.proofs.Common.{if◌then◌else◌, ◌≡◌, ◌∙◌, ℕ, Bool, true, false, not, ◌&&◌, ◌||◌, List, [], ◌∷◌, ◌++◌, map}
use Rattle.std.proofs.Common.{refl, sym, ap, ◌≢◌, ◌⊎◌, ◌↔◌, inl, inr, Any}
use Rattle.std.specs.List.{list_any}
use Rattle.std.proofs.lemmas.List.Elements.{filter-append}
use Rattle.std.proofs.lemmas.List.Folds.{Any-from_list_any, list_any-append, list_any-from_Any}
use Rattle.prop_numbers.specs.Sets.{Members, set_of, is_within}
use Rattle.prop_numbers.specs.Changes.{CoversChange}
use Rattle.prop_numbers.proofs.WithinLemmas.{within_has, within_from}
use Rattle.prop_tms.specs.Beliefs.{merge_of_all, belief_of, believed_of}
use Rattle.prop_tms.specs.Values.{entries_of, entries_of_one}
use Rattle.prop_tms.specs.inner.Values.{is_in_one}
use Rattle.prop_tms.specs.declared.supported.Supported.{Supported}
use Rattle.prop_tms.specs.declared.values.Valued.{Valued}

or_none : (a b : Bool) → (a || b) ≡ false → (a ≡ false) × (b ≡ false)
or_none true b h = cc
or_none false b h = (refl, h)

alike : (a b : Bool) → ((a && not b) || (b && not a)) ≡ false → a ≡ b
alike true true h = refl
alike true false h = cc
alike false true h = cc
alike false false h = refl

keep : {X : Type 0} (a b : Bool) (x : X) (xs ys : List X) → a ≡ b → xs ≡ ys
    → (if a then x ∷ xs else xs) ≡ (if b then x ∷ ys else ys)
keep true true x xs ys e h = ap (λ l. x ∷ l) h
keep true false x xs ys e h = cc
keep false true x xs ys e h = cc
keep false false x xs ys e h = h

one_alike : {V : Type 0} (w z : Members) (v : V) (ss : List (List ℕ)) → list_any (is_in_one w z) ss ≡ false →
    believed_of w (map (λ s. record { value = v; support = s }) ss) ≡ believed_of z
    (map (λ s. record { value = v; support = s }) ss)
one_alike w z v [] h = refl
one_alike w z v (s ∷ ss) h =
    let both = or_none (is_in_one w z s) (list_any (is_in_one w z) ss) h in
    keep (is_within w s) (is_within z s) (record { value = v; support = s }) _ _
    (alike (is_within w s) (is_within z s) both.0) (one_alike w z v ss both.1)

believed_alike : {V : Type 0} (w z : Members) (xs : List (Valued V))
    → list_any (λ x. list_any (is_in_one w z) x.supports.items) xs ≡ false →
    believed_of w (entries_of xs) ≡ believed_of z (entries_of xs)
believed_alike w z [] h = refl
believed_alike w z (x ∷ xs) h =
    let both = or_none (list_any (is_in_one w z) x.supports.items)
    (list_any (λ x. list_any (is_in_one w z) x.supports.items) xs) h in
    filter-append (λ e. is_within w e.support) (entries_of_one x) (entries_of xs)
    ∙ ap (λ l. l ++ believed_of w (entries_of xs)) (one_alike w z x.value x.supports.items both.0)
    ∙ ap (λ l. believed_of z (entries_of_one x) ++ l) (believed_alike w z xs both.1)
    ∙ sym (filter-append (λ e. is_within z e.support) (entries_of_one x) (entries_of xs))

-- where no entry is believed in just one of two worldviews, as much is believed in both
pub belief_alike : {V : Type 0} (bottom : V) (join : V → V → V) (w z : Members) (xs : List (Valued V)) →
    list_any (λ x. list_any (is_in_one w z) x.supports.items) xs ≡ false
    → belief_of bottom join w (entries_of xs) ≡ belief_of bottom join z (entries_of xs)
belief_alike bottom join w z xs h = ap (merge_of_all bottom join) (believed_alike w z xs h)

-- ---- entries that are believed in just one of two worldviews

abbrev in_one : {V : Type 0} → Members → Members → Supported V → Bool
in_one w z e = is_in_one w z e.support

abbrev Apart : {V : Type 0} → Members → Members → Supported V → Type 0
Apart w z e = is_within w e.support ≢ is_within z e.support

one_any : {V : Type 0} (w z : Members) (v : V) (ss : List (List ℕ)) → list_any (is_in_one w z) ss
    ≡ list_any (in_one w z) (map (λ s. record { value = v; support = s }) ss)
one_any w z v [] = refl
one_any w z v (s ∷ ss) = ap (λ b. is_in_one w z s || b) (one_any w z v ss)

all_any : {V : Type 0} (w z : Members) (xs : List (Valued V))
    → list_any (λ x. list_any (is_in_one w z) x.supports.items) xs
    ≡ list_any (in_one w z) (entries_of xs)
all_any w z [] = refl
all_any w z (x ∷ xs) =
    ap (λ b. b || list_any (λ y. list_any (is_in_one w z) y.supports.items) xs)
    (one_any w z x.value x.supports.items)
    ∙ ap (λ b. list_any (in_one w z) (entries_of_one x) || b) (all_any w z xs)
    ∙ sym (list_any-append (in_one w z) (entries_of_one x) (entries_of xs))

apart : (a b : Bool) → ((a && not b) || (b && not a)) ≡ true → a ≢ b
apart true true h = cc h
apart true false h = λ e. cc e
apart false true h = λ e. cc e
apart false false h = cc h

differ : (a b : Bool) → a ≢ b → ((a && not b) || (b && not a)) ≡ true
differ true true h = absurd (h refl)
differ true false h = refl
differ false true h = refl
differ false false h = absurd (h refl)

any_weaker : {X : Type 0} (P Q : X → Type 0) (xs : List X) → ((x : X) → P x → Q x) → Any P xs → Any Q xs
any_weaker P Q xs f (k, x, l, at, p) = (k, x, l, at, f x p)

-- the test on the values finds whether some entry is
pub some_in_one : {V : Type 0} (w z : Members) (xs : List (Valued V))
    → (list_any (λ x. list_any (is_in_one w z) x.supports.items) xs ≡ true)
    ↔ Any (λ e. is_within w e.support ≢ is_within z e.support) (entries_of xs)
some_in_one w z xs = (
  λ h. any_weaker (λ e. in_one w z e ≡ true) (Apart w z)
      (entries_of xs) (λ e t. apart (is_within w e.support) (is_within z e.support) t)
      (Any-from_list_any (in_one w z) (entries_of xs) (sym (all_any w z xs) ∙ h)),
  λ h. all_any w z xs ∙ list_any-from_Any (in_one w z) (entries_of xs)
      (any_weaker (Apart w z) (λ e. in_one w z e ≡ true)
      (entries_of xs) (λ e t. differ (is_within w e.support) (is_within z e.support) t) h),
)

-- ---- premises that both worldviews have or lack alike

tells : (a b : Bool) → (a ≡ b) ⊎ (a ≢ b)
tells true true = inl refl
tells true false = inr (λ e. cc e)
tells false true = inr (λ e. cc e)
tells false false = inl refl

both_or_neither : (a b : Bool) → (a ≡ true → b ≡ true) → (b ≡ true → a ≡ true)
    → ((a && not b) || (b && not a)) ≡ false
both_or_neither true true f g = refl
both_or_neither true false f g = cc (f refl)
both_or_neither false true f g = cc (g refl)
both_or_neither false false f g = refl

-- a support without a premise that may be in just one of two worldviews is believed in both or in neither
pub not_in_one : (w z may : Members) (s : List ℕ) → CoversChange w z may
    → ((p : ℕ) → set_of s p ≡ true → may p ≡ false) → is_in_one w z s ≡ false
not_in_one w z may s covers out = both_or_neither (is_within w s) (is_within z s)
    (λ t. within_from z s (λ p h. sym (same p h) ∙ within_has w s p t h))
    (λ t. within_from w s (λ p h. same p h ∙ within_has z s p t h))
  where
    same : (p : ℕ) → set_of s p ≡ true → w p ≡ z p
    same p h = elim (tells (w p) (z p)) [ inl e ↦ e | inr apart ↦ cc (covers p apart, out p h) ]
