-- What a nogood shows of the choices: that one of them has to leave its side, or that every choice
-- list is refuted.
use Rattle.std.specs.Prelude.{◌≡◌, ◌<◌, ℕ, List, Some, slice_get}
use Rattle.prop_numbers.specs.Sets.{Members, set_of}
use Rattle.prop_premises.specs.declared.choice.Choice.{Choice}
use Rattle.prop_cells.specs.Problems.{Problem}
use Rattle.prop_amb.specs.Refuted.{IsRuledOut}
use Rattle.prop_amb.specs.Search.{Stand, users_of, choices_in, IsKept}
use Rattle.prop_amb.specs.declared.resolving.Resolved.{Resolved}
use Rattle.prop_amb.specs.declared.resolving.Resolved.TheVariants.{Against, RuledOut}

-- the choice at place j stands on a side that isn't its last
pub record MayAdvance (s : Stand) (j : ℕ) : Type 0 where
  pub choice : Choice
  pub side : ℕ
  pub choice_at : slice_get (choices_in s) j ≡ Some choice
  pub side_at : slice_get s.list j ≡ Some side
  pub more : side < choice.sides

-- the set is a reason against the side on which the choice at place j stands
abbrev pub IsReason : Problem → Stand → ℕ → Members → Type 0
IsReason problem s j n =
    (choice : Choice) (side : ℕ) → slice_get (choices_in s) j ≡ Some choice
    → slice_get s.list j ≡ Some side → IsKept problem s j choice side n

-- where a choice is to leave its side, P holds of the choice's place
abbrev pub IfAgainst : Resolved → (ℕ → Type 0) → Type 0
IfAgainst (Against j n) P = P j
IfAgainst (RuledOut n) P = Unit {0}

-- the premises of the reason, or those with which every choice list is refuted
abbrev pub premises_of : Resolved → List ℕ
premises_of (Against j n) = n
premises_of (RuledOut n) = n

-- what a nogood shows: a reason against the side of one choice, or believed premises with which
-- every list is refuted
abbrev pub IsResolved : Problem → Stand → Resolved → Type 0
IsResolved problem s (Against j n) = IsReason problem s j (set_of n)
IsResolved problem s (RuledOut n) =
    IsRuledOut problem (users_of s) (choices_in s) s.listed (set_of n)
