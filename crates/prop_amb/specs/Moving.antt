-- How the stand of a search changes: by new names, by new choices, and by moves from one choice
-- list to a later one.
use Rattle.std.specs.Prelude.{◌≡◌, ℕ, zero, suc, ◌+◌, List, [], ◌∷◌, ◌++◌, length, map}
use Rattle.std.specs.Prelude.{if◌then◌else◌, ◌==◌, false}
use Rattle.prop_premises.specs.Origins.{Origin, with_name, with_choice}
use Rattle.prop_premises.specs.Origins.{choices_of}
use Rattle.prop_premises.specs.declared.choice.Choice.{Choice}
use Rattle.prop_premises.specs.inner.ChoiceLists.{is_side_of}
use Rattle.prop_cells.specs.Problems.{Problem}
use Rattle.prop_cells.specs.Reach.{Reaches}
use Rattle.prop_amb.specs.Search.{Stand}

-- each choice stands on its first side
abbrev pub first_sides : List ℕ → List ℕ
first_sides list = map (λ side. 1) list

-- no reason is kept, for as many choices
abbrev pub no_reasons : List (List (List ℕ)) → List (List (List ℕ))
no_reasons reasons = map (λ each. []) reasons

-- how many choices in a row, from the first one on and up to the level, stand on their first side
abbrev pub level_first : ℕ → List ℕ → ℕ
level_first zero list = 0
level_first (suc level) [] = 0
level_first (suc level) (side ∷ list) = if side == 1 then suc (level_first level list) else 0

-- Every choice stands on its first side, and no reason is kept. The sides that count as believed
-- are the first ones that did before, up to the first choice that stood on another.
abbrev pub restarted : Stand → Stand
restarted s = record s {
  list = first_sides s.list;
  level = level_first s.level s.list;
  reasons = no_reasons s.reasons;
}

-- a new name becomes a premise of the user's, and is believed
abbrev pub interned : Stand → List ℕ → Stand
interned s name = record s {
  premises = with_name s.premises name;
  worldview = s.worldview ++ length s.premises ∷ [];
}

-- a new choice stands on its first side, which isn't believed yet, and no reason is kept against it
abbrev pub declared : Stand → List ℕ → ℕ → Stand
declared s name sides = record s {
  premises = with_choice s.premises name sides;
  list = s.list ++ 1 ∷ [];
  reasons = s.reasons ++ [] ∷ [];
}

-- the choice is the last one, and its sides have the last numbers
pub record IsLastChoice (origins : List Origin) (choice : Choice) : Type 0 where
  pub earlier : List Choice
  pub last : choices_of origins ≡ earlier ++ choice ∷ []
  pub end : choice.first + choice.sides ≡ length origins

-- no side of the choice reaches a cell of the problem yet
abbrev pub IsFresh : Problem → Choice → Type 0
IsFresh problem choice = (p cell : ℕ) → Reaches problem p cell → is_side_of choice p ≡ false

-- one more choice counts as one whose side is believed; the worldview is as it was
abbrev pub deepened : Stand → Stand
deepened s = record s { level = s.level + 1 }

-- the choice at place j goes to its next side, and the later ones to their first
abbrev pub advanced : List ℕ → ℕ → List ℕ
advanced [] j = []
advanced (side ∷ list) zero = suc side ∷ first_sides list
advanced (side ∷ list) (suc j) = side ∷ advanced list j

-- the choice at place j keeps this reason too, and the later ones keep none
abbrev pub reasons_advanced : List (List (List ℕ)) → ℕ → List ℕ → List (List (List ℕ))
reasons_advanced [] j reason = []
reasons_advanced (each ∷ reasons) zero reason = (each ++ reason ∷ []) ∷ no_reasons reasons
reasons_advanced (each ∷ reasons) (suc j) reason = each ∷ reasons_advanced reasons j reason

-- the first choice of which no side is believed goes to its next side, and keeps this reason
abbrev pub passed_over : Stand → List ℕ → Stand
passed_over s reason = record s {
  list = advanced s.list s.level;
  reasons = reasons_advanced s.reasons s.level reason;
}
