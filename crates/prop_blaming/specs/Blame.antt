-- Conflicts, which are believed premises that can't all hold; repairs, which are what has to be
-- given up so that the others can; and what is replied with them.
use Rattle.std.specs.Prelude.{◌≡◌, ◌≤◌, ◌<◌, ℕ, List, Bool, true, false, not, ◌&&◌, All, Contains}
use Rattle.std.specs.Prelude.{IsTrue}
use Rattle.std.specs.Prelude.{length}
use Rattle.std.specs.List.Sorted.{IsStrictlyIncreasing}
use Rattle.prop_lattice.specs.Points.{Point}
use Rattle.prop_numbers.specs.Sets.{Members, IsPart, set_of, without}
use Rattle.prop_premises.specs.ChoiceLists.{IsChoiceList, worldview}
use Rattle.prop_premises.specs.Origins.{believed_in}
use Rattle.prop_procedures.specs.Stored.{Stored}
use Rattle.prop_hitting.specs.Costs.{cost}
use Rattle.prop_hitting.specs.declared.conflict.Conflict.{Conflict}
use Rattle.prop_workbench.specs.Machine.{State, choices_in}
use Rattle.prop_workbench.specs.Points.{Satisfy}
use Rattle.prop_seeking.specs.Plans.{Refutes}
use Rattle.prop_blaming.specs.Asking.{Wish}
use Rattle.prop_blaming.specs.Asking.Wish.{Conflicts, Repairs, Cheapest}
use Rattle.prop_blaming.specs.Texts.{cheapest_text, conflicts_text, repairs_text}

-- some points satisfy what these premises say with some choice list
abbrev pub CanHold : List Stored → State → Members → Type 0
CanHold library s ps = (list : List ℕ) × (points : ℕ → Point) × IsChoiceList (choices_in s) list
    × Satisfy library s (worldview ps (choices_in s) list) points

-- these premises are believed and can't all hold
abbrev pub CannotHold : List Stored → State → List ℕ → Type 0
CannotHold library s by = Refutes library s (λ points. ⊥) by

-- A conflict: its premises can't all hold. Where it is known to be minimal, they can without any
-- one of them.
abbrev pub IsConflict : List Stored → State → Conflict → Type 0
IsConflict library s c = CannotHold library s c.premises × (IsTrue c.is_least → (p : ℕ)
    → IsTrue (set_of c.premises p) → CanHold library s (without (set_of c.premises) p))

-- the believed premises without these
abbrev pub kept_without : State → Members → Members
kept_without s out p = believed_in s.premises p && not (out p)

-- A repair: these premises are believed, the other believed ones can hold without them, and can't
-- with any one of them.
abbrev pub IsRepair : List Stored → State → List ℕ → Type 0
IsRepair library s out = IsPart (set_of out) (believed_in s.premises)
    × CanHold library s (kept_without s (set_of out)) × ((p : ℕ) → IsTrue (set_of out p)
    → CanHold library s (kept_without s (without (set_of out) p)) → ⊥)

-- The text tells conflicts, no more than were asked for. If it says that there are no others, then
-- any believed premises that can't all hold have all premises of one of these conflicts.
abbrev pub SaysConflicts : List Stored → State → ℕ → List ℕ → Type 0
SaysConflicts library s most text = (found : List Conflict) × (all : Bool) × (length found ≤ most)
    × All (IsConflict library s) found × (IsTrue all → (by : List ℕ) → CannotHold library s by
    → (c : Conflict) × Contains found c × IsPart (set_of c.premises) (set_of by))
    × (text ≡ conflicts_text s.premises found all)

-- The text tells repairs, no more than were asked for. If it says that there are no others, then
-- any premises that can hold have no premise of one of these repairs.
abbrev pub SaysRepairs : List Stored → State → ℕ → List ℕ → Type 0
SaysRepairs library s most text = (found : List (List ℕ)) × (all : Bool) × (length found ≤ most)
    × All (IsRepair library s) found × (IsTrue all → (kept : Members) → CanHold library s kept
    → (out : List ℕ) × Contains found out × ((p : ℕ) → IsTrue (set_of out p) → kept p ≡ false))
    × (text ≡ repairs_text s.premises found all)

-- The text tells repairs and what they cost, no more than were asked for. What could be given up
-- instead for less than one of them has all premises of one of them. If it says that there are no
-- others, then any premises that can hold have no premise of one of these repairs.
abbrev pub SaysCheapest : List Stored → State → List ℕ → ℕ → List ℕ → Type 0
SaysCheapest library s weights most text = (found : List (List ℕ)) × (all : Bool)
    × (length found ≤ most) × All (IsRepair library s) found
    × ((out : List ℕ) → IsStrictlyIncreasing out
    → CanHold library s (kept_without s (set_of out)) → (r : List ℕ) → Contains found r
    → cost weights out < cost weights r
    → (q : List ℕ) × Contains found q × IsPart (set_of q) (set_of out))
    × (IsTrue all → (kept : Members) → CanHold library s kept
    → (out : List ℕ) × Contains found out × ((p : ℕ) → IsTrue (set_of out p) → kept p ≡ false))
    × (text ≡ cheapest_text s.premises weights found all)

-- what the text replies is so
abbrev pub Says : List Stored → State → Wish → List ℕ → Type 0
Says library s (Conflicts most) text = SaysConflicts library s most text
Says library s (Repairs most) text = SaysRepairs library s most text
Says library s (Cheapest most weights) text = SaysCheapest library s weights most text
