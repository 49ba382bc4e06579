-- What a new name and a new choice change, and what they leave.
use Rattle.std.proofs.Common.{◌≡◌, ℕ, zero, suc, ◌+◌, ◌-◌, ◌<◌, ◌≤◌, Bool, true, false, cond, ◌||◌, List, [], ◌∷◌, ◌++◌}
use Rattle.std.proofs.Common.{length, take, refl, sym, ap, ◌∙◌, inl, inr, arith, Some, slice_get, is_some}
use Rattle.std.proofs.Common.{length-append}
use Rattle.std.specs.Option.{option_map_or}
use Rattle.std.proofs.lemmas.Bool.{cases_lt}
use Rattle.prop_numbers.specs.Sets.{IsSame}
use Rattle.prop_premises.specs.Origins.{Origin, User, Side, with_name, with_choice, believed_in}
use Rattle.prop_premises.specs.inner.Origins.{sides_below}
use Rattle.prop_premises.specs.Origins.{is_user, is_user_at, is_start, premise_number}
use Rattle.prop_premises.specs.inner.Origins.{is_believed}
use Rattle.prop_premises.proofs.ChoiceLemmas.{length-sides, slice_get-sides, slice_get-skip}
use Rattle.prop_premises.proofs.EntryLemmas.{take-front}
use Rattle.prop_premises.proofs.OriginLemmas.{believed_in-at, believed_in-past, is_user_at-at}

-- ---- more premises at the end

pub believed_in-append : (os more : List Origin) (p : ℕ) → p < length os → believed_in (os ++ more) p ≡ believed_in os p
believed_in-append [] more p l = absurd (omega (arith, l))
believed_in-append (o ∷ os) more zero l = refl
believed_in-append (o ∷ os) more (suc p) l = believed_in-append os more p (omega (arith, l))

pub is_user_at-append : (os more : List Origin) (p : ℕ) → p < length os → is_user_at (os ++ more) p ≡ is_user_at os p
is_user_at-append [] more p l = absurd (omega (arith, l))
is_user_at-append (o ∷ os) more zero l = refl
is_user_at-append (o ∷ os) more (suc p) l = is_user_at-append os more p (omega (arith, l))

is_user_at-past : (os : List Origin) (p : ℕ) → length os ≤ p → is_user_at os p ≡ false
is_user_at-past [] p l = refl
is_user_at-past (o ∷ os) zero l = absurd (omega (arith, l))
is_user_at-past (o ∷ os) (suc p) l = is_user_at-past os p (omega (arith, l))

-- a name starts where the premises end
pub is_start-end : (os : List Origin) (n : ℕ) → n ≡ length os → is_start os n ≡ true
is_start-end [] zero e = refl
is_start-end [] (suc n) e = absurd (omega (arith, e))
is_start-end (o ∷ os) zero e = absurd (omega (arith, e))
is_start-end (o ∷ os) (suc n) e = is_start-end os n (omega (arith, e))

is_start-append : (os more : List Origin) (n : ℕ) → n ≡ length os → is_start (os ++ more) n ≡ is_start more 0
is_start-append [] more n e = ap (is_start more) (omega (arith, e))
is_start-append (o ∷ os) more zero e = absurd (omega (arith, e))
is_start-append (o ∷ os) more (suc n) e = is_start-append os more n (omega (arith, e))

-- ---- a new name of the user's

pub is_start-with_name : (os : List Origin) (name : List ℕ) (n : ℕ) → n ≡ length os
    → is_start (with_name os name) n ≡ true
is_start-with_name os name n e = by (is_some (premise_number os name))
  where
    by : (b : Bool) → is_start (cond b os (os ++ User name true ∷ [])) n ≡ true
    by true = is_start-end os n e
    by false = is_start-append os (User name true ∷ []) n e

pub believed_in-with_name : (os : List Origin) (name : List ℕ) (p : ℕ) → p < length os
    → believed_in (with_name os name) p ≡ believed_in os p
believed_in-with_name os name p l = by (is_some (premise_number os name))
  where
    by : (b : Bool) → believed_in (cond b os (os ++ User name true ∷ [])) p ≡ believed_in os p
    by true = refl
    by false = believed_in-append os (User name true ∷ []) p l

or_none : (b : Bool) → (b || false) ≡ b
or_none true = refl
or_none false = refl

-- ---- a new choice

pub length-with_choice : (os : List Origin) (name : List ℕ) (sides : ℕ)
    → length (with_choice os name sides) ≡ length os + sides
length-with_choice os name sides = length-append os (sides_below name sides sides)
    ∙ ap (λ n. length os + n) (length-sides name sides sides)

-- what a refused choice would have added is dropped
pub take-with_choice : (os : List Origin) (name : List ℕ) (sides n : ℕ) → n ≡ length os
    → take n (with_choice os name sides) ≡ os
take-with_choice os name sides n e = take-front os (sides_below name sides sides) n e

side_at_place : (os : List Origin) (name : List ℕ) (sides p : ℕ) → length os ≤ p → p < length os + sides
    → (i : ℕ) × (slice_get (with_choice os name sides) p ≡ Some (Side name (suc i) sides))
side_at_place os name sides p low high =
    let i : p ≡ length os + (p - length os) = omega (arith, low) in (
      p - length os,
      slice_get-skip os (sides_below name sides sides) (p - length os) p i
          ∙ slice_get-sides name sides sides (p - length os) (omega (arith, low, high)),
    )

-- no side is believed, and all others are as before
pub believed_in-with_choice : (os : List Origin) (name : List ℕ) (sides : ℕ)
    → IsSame (believed_in (with_choice os name sides)) (believed_in os)
believed_in-with_choice os name sides p = elim (cases_lt p (length os)) [
  | inl below ↦ believed_in-append os (sides_below name sides sides) p below
  | inr above ↦ past above ∙ sym (believed_in-past os p above)
]
  where
    past : length os ≤ p → believed_in (with_choice os name sides) p ≡ false
    past above = elim (cases_lt p (length os + sides)) [
      | inl within ↦ believed_in-at (with_choice os name sides) p
          ∙ ap (λ o. option_map_or is_believed o false) (side_at_place os name sides p above within).1
      | inr beyond ↦ believed_in-past (with_choice os name sides) p
          (omega (arith, beyond, length-with_choice os name sides))
    ]

-- no side is a premise of the user's
pub is_user_at-with_choice : (os : List Origin) (name : List ℕ) (sides p : ℕ)
    → is_user_at (with_choice os name sides) p ≡ is_user_at os p
is_user_at-with_choice os name sides p = elim (cases_lt p (length os)) [
  | inl below ↦ is_user_at-append os (sides_below name sides sides) p below
  | inr above ↦ past above ∙ sym (is_user_at-past os p above)
]
  where
    past : length os ≤ p → is_user_at (with_choice os name sides) p ≡ false
    past above = elim (cases_lt p (length os + sides)) [
      | inl within ↦ is_user_at-at (with_choice os name sides) p
          ∙ ap (λ o. option_map_or is_user o false) (side_at_place os name sides p above within).1
      | inr beyond ↦ is_user_at-past (with_choice os name sides) p
          (omega (arith, beyond, length-with_choice os name sides))
    ]
