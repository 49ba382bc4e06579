-- Premises in order of number: where each comes from, and which of the user's are believed.
use Rattle.std.specs.Prelude.{◌≡◌, ◌<◌, ℕ, zero, suc, ◌==◌, Bool, true, false, cond, bytes_eq}
use Rattle.std.specs.Prelude.{IsTrue, List, [], ◌∷◌, ◌++◌, length, position, Option, Some, None}
use Rattle.std.specs.Prelude.{is_some, map}
use Rattle.std.specs.List.{list_any, range_with_len}
use Rattle.prop_numbers.specs.Sets.{Members}
use Rattle.prop_premises.specs.declared.choice.Choice.{Choice}
use Rattle.prop_premises.specs.ChoiceLists.{is_hypothetical, AreInOrder, AreOfSides}

-- a premise of the user's, by its name, believed or not; or one side of a choice, by the choice's
-- name, which of its sides, and how many it has
pub data Origin : Type 0 where
  User : List ℕ → Bool → Origin
  Side : List ℕ → ℕ → ℕ → Origin

abbrev pub name_of : Origin → List ℕ
name_of (User name believed) = name
name_of (Side choice side sides) = choice

abbrev pub is_user : Origin → Bool
is_user (User name believed) = true
is_user (Side choice side sides) = false

-- the number of the user's premise with this name
abbrev pub premise_number : List Origin → List ℕ → Option ℕ
premise_number os name = position (elim [ User other _ ↦ bytes_eq name other | _ ↦ false ]) os

-- a choice has the name
abbrev pub is_choice : List Origin → List ℕ → Bool
is_choice os name = list_any (elim [ Side choice _ _ ↦ bytes_eq name choice | _ ↦ false ]) os

abbrev pub is_user_at : List Origin → ℕ → Bool
is_user_at [] p = false
is_user_at (o ∷ os) zero = is_user o
is_user_at (o ∷ os) (suc p) = is_user_at os p

-- the believed premises of the user's
abbrev pub believed_in : List Origin → Members
believed_in [] p = false
believed_in (o ∷ os) zero = elim o [ User _ believed ↦ believed | Side _ _ _ ↦ false ]
believed_in (o ∷ os) (suc p) = believed_in os p

-- the user's premise with this number is believed or not, and all else stays
abbrev pub with_belief_at : List Origin → ℕ → Bool → List Origin
with_belief_at [] p b = []
with_belief_at (o ∷ os) zero b = elim o [ User name _ ↦ User name b | Side n i k ↦ Side n i k ] ∷ os
with_belief_at (o ∷ os) (suc p) b = o ∷ with_belief_at os p b

-- a new name is the last premise, and believed; a known one changes nothing
abbrev pub with_name : List Origin → List ℕ → List Origin
with_name os name = cond (is_some (premise_number os name)) os (os ++ User name true ∷ [])

-- a new choice has the next numbers, one for each side
abbrev pub with_choice : List Origin → List ℕ → ℕ → List Origin
with_choice os name sides = os ++ map (λ side. Side name side sides) (range_with_len 1 sides)

-- the choices among premises of which the first has this number
abbrev pub choices_from : ℕ → List Origin → List Choice
choices_from n [] = []
choices_from n (User name believed ∷ os) = choices_from (suc n) os
choices_from n (Side name side sides ∷ os) = cond (side == 1)
    (record { first = n; sides = sides } ∷ choices_from (suc n) os) (choices_from (suc n) os)

-- the choices in order of declaration
abbrev pub choices_of : List Origin → List Choice
choices_of origins = choices_from 0 origins

-- which side of its choice the premise is; sides count from 1
abbrev pub side_of : Origin → Option ℕ
side_of (User name believed) = None
side_of (Side choice side sides) = Some side

-- which side of its choice the premise with this number is, none where it is the user's
abbrev pub side_at : List Origin → ℕ → Option ℕ
side_at [] p = None
side_at (o ∷ os) zero = side_of o
side_at (o ∷ os) (suc p) = side_at os p

-- the premise is the only one with its name, or the first side of a choice
abbrev pub starts : Origin → Bool
starts (User name believed) = true
starts (Side choice side sides) = side == 1

-- a name starts with this number, or it is the next free one: no choice stands on both sides of it
abbrev pub is_start : List Origin → ℕ → Bool
is_start [] zero = true
is_start [] (suc p) = false
is_start (o ∷ os) zero = starts o
is_start (o ∷ os) (suc p) = is_start os p

-- The sides of a choice have numbers in a row, those of later choices larger ones; each of them is
-- one of these premises, and none is the user's.
pub record IsNumbered (origins : List Origin) : Type 0 where
  pub in_order : AreInOrder (choices_of origins)
  pub of_sides : AreOfSides (choices_of origins)
  pub below : (p : ℕ) → IsTrue (is_hypothetical (choices_of origins) p) → p < length origins
  pub users : (p : ℕ) → IsTrue (is_user_at origins p)
      → is_hypothetical (choices_of origins) p ≡ false
