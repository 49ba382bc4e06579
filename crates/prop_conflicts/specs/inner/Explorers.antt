-- What is known of a search for conflicts and repairs.
use Rattle.std.specs.Prelude.{◌≡◌, ℕ, List, Bool, Option, All, IfSome, IsTrue, false, ⊤}
use Rattle.prop_numbers.specs.Sets.{Members, IsPart, set_of, without}
use Rattle.prop_premises.specs.Origins.{believed_in}
use Rattle.prop_hitting.specs.Frontiers.{AreSought}
use Rattle.prop_hitting.specs.Hitting.{HasAllOfOne, HitsAll, IsLean}
use Rattle.prop_hitting.specs.declared.conflict.Conflict.{Conflict}
use Rattle.prop_hitting.specs.declared.frontier.Frontier.{Frontier}
use Rattle.prop_conflicts.specs.Conflicts.{Fits, Ground, IsConflict, IsRefuted, IsRepair}
use Rattle.prop_conflicts.specs.inner.Trials.{IsTrial}
use Rattle.prop_conflicts.specs.declared.explorer.Explorer.{Explorer}
use Rattle.prop_conflicts.specs.declared.explorer.Stage.{Stage}
use Rattle.prop_conflicts.specs.declared.explorer.Stage.TheVariants.{Seeking, Giving, Shrinking}
use Rattle.prop_conflicts.specs.declared.explorer.Stage.TheVariants.{Trying, Idle}
use Rattle.prop_conflicts.specs.declared.shrinking.Shrinking.{Shrinking as ShrinkingOf}
use Rattle.prop_conflicts.specs.declared.trial.Trial.{Trial}

-- The premises are refuted. Some of them are needed: without any one of these the others fit.
pub record IsShrinking (g : Ground) (s : ShrinkingOf) : Type 0 where
  pub refuted : IsRefuted g s.premises
  pub needed : (p : ℕ) → IsTrue (set_of s.needed p) → Fits g (without (set_of s.premises) p)

-- each believed premise that isn't given up is tried
abbrev pub IsLeft : Ground → List ℕ → Trial → Type 0
IsLeft g out t = (p : ℕ) → IsTrue (believed_in g.premises p) → set_of out p ≡ false
    → IsTrue (set_of t.kept p)

-- each of these premises but p is tried
abbrev pub IsWithout : List ℕ → ℕ → Trial → Type 0
IsWithout premises p t = IsPart (without (set_of premises) p) (set_of t.kept)

-- What is so at each stage of a search. While premises are given up, these hit all conflicts, are
-- all needed for that, and the others are tried. While refuted premises are made fewer, they are
-- refuted, and maybe tried without one of them.
abbrev pub Stands : Ground → List Conflict → List ℕ → ShrinkingOf → ℕ → Option Trial → Stage
    → Type 0
Stands g conflicts out s p trial Giving =
    HitsAll (set_of out) conflicts × IsLean conflicts out × IfSome trial (IsLeft g out)
Stands g conflicts out s p trial Shrinking = IsShrinking g s
Stands g conflicts out s p trial Trying =
    IsShrinking g s × IfSome trial (IsWithout s.premises p)
Stands g conflicts out s p trial Seeking = ⊤
Stands g conflicts out s p trial Idle = ⊤

-- What a search knows. Its conflicts and its repairs are such. Each set that hits all conflicts has
-- all of a repair, or is still looked for; once the search is over, each has all of a repair. Its
-- trial, where it has one, is such.
pub record Knows (g : Ground) (conflicts : List Conflict) (repairs : List (List ℕ))
    (frontier : Frontier) (is_over : Bool) (trial : Option Trial) : Type 0 where
  pub conflicts_are : All (IsConflict g) conflicts
  pub repairs_are : All (IsRepair g) repairs
  pub sought : AreSought conflicts repairs frontier
  pub over : IsTrue is_over → (h : Members) → HitsAll h conflicts → HasAllOfOne h repairs
  pub trial_is : IfSome trial (IsTrial g)

abbrev pub KnowsOf : Ground → Explorer → Type 0
KnowsOf g e = Knows g e.conflicts.items e.repairs.items e.frontier e.is_over e.trial

abbrev pub StandsOf : Ground → Explorer → Type 0
StandsOf g e = Stands g e.conflicts.items e.out e.shrinking e.premise e.trial e.stage

-- what is known of a search, and what is so at its stage
pub record IsExplored (g : Ground) (e : Explorer) : Type 0 where
  pub knows : KnowsOf g e
  pub stands : StandsOf g e
