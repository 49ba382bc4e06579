-- Which sides of choices a nogood speaks against. Its culprits are its own premises and those that
-- stand behind them by kept reasons; a choice leaves a believed side only where the side is a
-- culprit.
use Rattle.std.specs.Prelude.{◌≡◌, ℕ, IsTrue, List, [], Some, slice_get, slice_index_or, Contains}
use Rattle.prop_numbers.specs.Sets.{Members, set_of, IsPart}
use Rattle.prop_premises.specs.declared.choice.Choice.{Choice}
use Rattle.prop_premises.specs.ChoiceLists.{hypothetical}
use Rattle.prop_amb.specs.Search.{Stand, choices_in, believed_with}
use Rattle.prop_amb.specs.Resolving.{MayAdvance}

-- Each premise of a nogood is a culprit of it. Where the last side of a choice is a culprit, so is
-- each premise of each reason that is kept against another side of the choice.
pub data IsCulprit (s : Stand) (n : List ℕ) : ℕ → Type 0 where
  own : (p : ℕ) → IsTrue (set_of n p) → IsCulprit s n p
  joined : (j p : ℕ) (choice : Choice) (reason : List ℕ) → slice_get (choices_in s) j ≡ Some choice
      →
      IsCulprit s n (hypothetical choice choice.sides) →
      Contains (slice_index_or s.reasons j []) reason → IsTrue (set_of reason p) → IsCulprit s n p

-- each premise of the set is a culprit of the nogood
abbrev pub AreCulprits : Stand → List ℕ → Members → Type 0
AreCulprits s n set = (p : ℕ) → IsTrue (set p) → IsCulprit s n p

-- each premise of the set is a culprit of one noted nogood that is believed
pub record IsBlamed (s : Stand) (set : Members) : Type 0 where
  pub nogood : List ℕ
  pub noted : Contains s.listed nogood
  pub believed : IsPart (set_of nogood) (believed_with s)
  pub culprits : AreCulprits s nogood set

-- the choice at place j stands on a side that is a culprit of the nogood, and isn't its last
pub record MayLeave (s : Stand) (n : List ℕ) (j : ℕ) : Type 0 where
  pub may : MayAdvance s j
  pub culprit : IsCulprit s n (hypothetical may.choice may.side)

-- the choice at place j may leave its side for a noted nogood that is believed
pub record MayMove (s : Stand) (j : ℕ) : Type 0 where
  pub nogood : List ℕ
  pub noted : Contains s.listed nogood
  pub believed : IsPart (set_of nogood) (believed_with s)
  pub leaves : MayLeave s nogood j
