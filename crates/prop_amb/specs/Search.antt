-- Where the search for the first consistent choice list stands, what it keeps, and how long it may
-- take. A choice list takes one side of each choice; the premise of a side is called hypothetical.
use Rattle.std.specs.Prelude.{◌≡◌, ◌≢◌, ◌≤◌, ◌<◌, ◌⊎◌, ℕ, ◌+◌, ◌-◌, ◌*◌, IsTrue, List, [], length}
use Rattle.std.specs.Prelude.{Option, Some, slice_get, slice_index_or, take, All}
use Rattle.std.specs.List.{AllZip}
use Rattle.prop_refusals.specs.Refusals.{most}
use Rattle.prop_refusals.specs.declared.refusal.Limit.TheVariants.{Premises}
use Rattle.prop_numbers.specs.Sets.{Members, IsSame, set_of}
use Rattle.prop_premises.specs.Origins.{Origin, believed_in, choices_of, IsNumbered}
use Rattle.prop_premises.specs.declared.choice.Choice.{Choice}
use Rattle.prop_premises.specs.ChoiceLists.{hypothetical, hypotheticals_of, worldview, place_of}
use Rattle.prop_premises.specs.ChoiceLists.{IsChoiceList, IsBefore}
use Rattle.prop_cells.specs.Problems.{Problem}
use Rattle.prop_nogoods.specs.Stores.{AreMinimal, has_part}
use Rattle.prop_scheduler.specs.Potential.{most_steps}
use Rattle.prop_amb.specs.Refuted.{IsRefuted, IsNogood, IsGrounded, IsCovered}

-- The stand of a search: the premises; the side on which each choice stands; of how many choices,
-- from the first on, this side is believed; for each choice the reasons against the sides that it
-- left; the noted nogoods; and the premises that are believed.
pub record Stand : Type 0 where
  pub premises : List Origin
  pub list : List ℕ
  pub level : ℕ
  pub reasons : List (List (List ℕ))
  pub listed : List (List ℕ)
  pub worldview : List ℕ

abbrev pub no_stand : Stand
no_stand = record { premises = []; list = []; level = 0; reasons = []; listed = []; worldview = [] }

-- the believed premises that are the user's and no sides
abbrev pub users_of : Stand → Members
users_of s = believed_in s.premises

-- the choices among the premises
abbrev pub choices_in : Stand → List Choice
choices_in s = choices_of s.premises

-- what is believed: the believed premises of the user's, and of the first choices, as many as the
-- level says, the sides on which they stand
abbrev pub believed_with : Stand → Members
believed_with s = worldview (users_of s) (choices_in s) (take s.level s.list)

-- What every stand keeps. There are no more premises than there may be. Each choice stands on one
-- of its sides, and has one reason for each side before that. No more choices have a believed side
-- than there are, and the worldview is what is believed with these sides. No noted nogood is part
-- of another.
pub record IsStand (s : Stand) : Type 0 where
  pub numbered : IsNumbered s.premises
  pub few : length s.premises ≤ most Premises
  pub is_list : IsChoiceList (choices_in s) s.list
  pub reasoned : AllZip (λ side reasons. length reasons + 1 ≡ side) s.list s.reasons
  pub level : s.level ≤ length s.list
  pub believes : IsSame (set_of s.worldview) (believed_with s)
  pub minimal : AreMinimal s.listed

-- Why the choice at place j may leave a side: a refuted set that has the side, and beside it only
-- believed premises of the user's and sides on which earlier choices stand. It is grounded in
-- nogoods, and covered by the noted ones.
pub record IsKept (problem : Problem) (s : Stand) (j : ℕ) (choice : Choice) (side : ℕ)
    (reason : Members) : Type 0 where
  pub refuted : IsRefuted problem (choices_in s) reason
  pub grounded : IsGrounded problem (choices_in s) reason
  pub covered : IsCovered (choices_in s) s.listed reason
  pub against : IsTrue (reason (hypothetical choice side))
  pub beside : (p : ℕ) → IsTrue (reason p) → p ≢ hypothetical choice side
      → IsTrue (users_of s p) ⊎ IsTrue (hypotheticals_of (take j (choices_in s)) (take j s.list) p)

-- the reason that the choice at place j has against a side; its reasons are in the order of its
-- sides
abbrev pub reason_at : Stand → ℕ → ℕ → Option (List ℕ)
reason_at s j side = slice_get (slice_index_or s.reasons j []) (side - 1)

-- each reason that a choice has against one of its sides is one, as `IsKept` says
pub record AreKept (problem : Problem) (s : Stand) : Type 0 where
  pub kept : (j : ℕ) (choice : Choice) (side : ℕ) (reason : List ℕ)
      → slice_get (choices_in s) j ≡ Some choice → 1 ≤ side → reason_at s j side ≡ Some reason
      → IsKept problem s j choice side (set_of reason)

-- what a search keeps: its noted nogoods are nogoods of the problem, and its reasons are reasons
pub record IsSearch (problem : Problem) (s : Stand) : Type 0 where
  pub nogoods : All (λ line. IsNogood problem (choices_in s) (set_of line)) s.listed
  pub reasons : AreKept problem s

-- with every choice list before the one on which the choices stand, a noted nogood would be
-- believed
abbrev pub AllBeforeBlocked : Stand → Type 0
AllBeforeBlocked s = (earlier : List ℕ) → IsChoiceList (choices_in s) earlier
    → IsBefore earlier s.list → IsTrue
    (has_part s.listed (worldview (users_of s) (choices_in s) earlier))

-- The search came from the old list to the new one, `further` lists later. Its steps are fewer than
-- `further + 1` times `most_steps + 1`: for each list that it came by as many as a run may take,
-- and one more.
pub record Moves (problem : Problem) (choices : List Choice) (old new : List ℕ) (steps : ℕ) : Type 0
  where
    pub further : ℕ
    pub place : place_of choices new ≡ place_of choices old + further
    pub few : steps < (further + 1) * (most_steps problem + 1)
