-- What is known of a nogood that refutes the choice list on which a search stands, and of the move
-- that follows.
use Rattle.std.specs.Prelude.{◌≡◌, ◌<◌, ◌+◌, ◌⊎◌, ℕ, List, false, Contains}
use Rattle.prop_numbers.specs.Sets.{set_of, IsPart}
use Rattle.prop_cells.specs.Problems.{Problem}
use Rattle.prop_nogoods.specs.Stores.{has_part}
use Rattle.prop_amb.specs.Search.{Stand, IsSearch}
use Rattle.prop_amb.specs.Moving.{advanced, reasons_advanced, passed_over}
use Rattle.prop_amb.specs.Resolving.{IsReason}
use Rattle.prop_amb.specs.declared.resolving.Resolved.{Resolved}
use Rattle.prop_amb.specs.declared.resolving.Resolved.TheVariants.{Against, RuledOut}
use Rattle.prop_amb.specs.Culprits.{MayMove, AreCulprits}
use Rattle.prop_amb.specs.Going.{MaySkip, MayBelieve}

-- The noted nogood would be believed with the side of one choice more, and is a reason against this
-- side. No noted nogood is believed now.
pub record IsNext (s : Stand) (n : List ℕ) : Type 0 where
  pub may : MaySkip s n
  pub unblocked : has_part s.listed (set_of s.worldview) ≡ false
  pub reason : (problem : Problem) → IsSearch problem s → IsReason problem s s.level (set_of n)

-- a noted nogood of which every premise is believed
pub record IsHere (s : Stand) (n : List ℕ) : Type 0 where
  pub noted : Contains s.listed n
  pub believed : IsPart (set_of n) (set_of s.worldview)

-- a noted nogood that is believed, or would be with the side of one choice more
abbrev pub IsFound : Stand → List ℕ → Type 0
IsFound s n = IsHere s n ⊎ IsNext s n

-- The choice at place j may go on for this reason. Either its side is believed, and it may move for
-- a noted nogood that is believed, of which the reason has culprits alone. Or it is the first
-- choice of which no side is believed, no noted nogood is believed, and it may skip its side for
-- the reason, which is a noted nogood.
abbrev pub MayStep : Stand → ℕ → List ℕ → Type 0
MayStep s j reason =
    ((j < s.level) × ((may : MayMove s j) × AreCulprits s may.nogood (set_of reason)))
    ⊎ ((j ≡ s.level) × (has_part s.listed (set_of s.worldview) ≡ false) × MaySkip s reason)

-- the choice at place j went on for this reason, by a move or by a skip
abbrev pub HasStepped : Stand → ℕ → List ℕ → Stand → Type 0
HasStepped s j reason new =
    (((may : MayMove s j) × AreCulprits s may.nogood (set_of reason))
    × (new ≡ record s {
      list = advanced s.list j;
      level = j + 1;
      reasons = reasons_advanced s.reasons j reason;
      worldview = new.worldview;
    }))
    ⊎ ((j ≡ s.level) × MaySkip s reason × MayBelieve (passed_over s reason) new)

-- where a choice is to leave its side, P holds of its place and the reason
abbrev pub IfStep : (ℕ → List ℕ → Type 0) → Resolved → Type 0
IfStep P (Against j n) = P j n
IfStep P (RuledOut n) = Unit {0}

-- where every choice list is refuted, P holds of the premises that show it
abbrev pub IfRuledOut : (List ℕ → Type 0) → Resolved → Type 0
IfRuledOut P (Against j n) = Unit {0}
IfRuledOut P (RuledOut n) = P n
