-- What is known of the sets that are looked for, and what a step comes to.
use Rattle.std.specs.Prelude.{◌⊎◌, ℕ, List, ⊤}
use Rattle.prop_numbers.specs.Sets.{Members, set_of}
use Rattle.prop_hitting.specs.Hitting.{HasAllOfOne, HitsAll, IsLean}
use Rattle.prop_hitting.specs.declared.conflict.Conflict.{Conflict}
use Rattle.prop_hitting.specs.declared.frontier.Frontier.{Frontier}
use Rattle.prop_hitting.specs.declared.frontier.Step.{Step}
use Rattle.prop_hitting.specs.declared.frontier.Step.TheVariants.{Found, Open, Over}
use Rattle.prop_hitting.specs.inner.Nodes.{IsOneOf}

-- each set that hits all conflicts has all of a repair, or is still looked for
abbrev pub AreSought : List Conflict → List (List ℕ) → Frontier → Type 0
AreSought conflicts repairs f = (h : Members) → HitsAll h conflicts
    → HasAllOfOne h repairs ⊎ IsOneOf h f.nodes.items

-- a set that hits all conflicts and needs each of its premises for that; or each set that hits them
-- has all of a repair
abbrev pub IsNext : List Conflict → List (List ℕ) → Step → Type 0
IsNext conflicts repairs (Found s) = HitsAll (set_of s) conflicts × IsLean conflicts s
IsNext conflicts repairs Open = ⊤
IsNext conflicts repairs Over = (h : Members) → HitsAll h conflicts → HasAllOfOne h repairs
