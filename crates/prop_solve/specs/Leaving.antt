-- What a search leaves to later ones, and what these take up of it.
use Rattle.std.specs.Prelude.{◌≡◌, ◌⊎◌, ℕ, List, All, Some, IfSome}
use Rattle.prop_lattice.specs.Points.{Point}
use Rattle.prop_premises.specs.declared.choice.Choice.{Choice}
use Rattle.prop_premises.specs.Origins.{Origin, choices_of}
use Rattle.prop_procedures.specs.Stored.{Stored}
use Rattle.prop_cells.specs.Data.{Data}
use Rattle.prop_cells.specs.Points.{Attached}
use Rattle.prop_facts.specs.declared.fact.Literal.{Literal}
use Rattle.prop_plans.specs.Held.{attached_of}
use Rattle.prop_refuting.specs.Nogoods.{Narrows, Nogood}
use Rattle.prop_refuting.specs.Places.{IsSoAt}
use Rattle.prop_learned.specs.Stores.{IsKeptIn}
use Rattle.prop_deriving.specs.Known.{IsExcused}
use Rattle.prop_lessons.specs.Lessons.{AreTaught, PastOf, Taught}
use Rattle.prop_solve.specs.Searches.{IsSearch, Search, bare}

-- the past is that of these cells and premises
abbrev pub IsOf : Data → List Origin → PastOf → Type 0
IsOf d premises p = p ≡ record { attached = attached_of d; choices = choices_of premises }

-- nothing has all of the first facts and all of the others
abbrev pub AreApart : List Literal → List Literal → Type 0
AreApart facts more = (n : Attached) (points : ℕ → Point) (list : List ℕ)
    → All (IsSoAt n points list) facts → All (IsSoAt n points list) more → ⊥

-- nothing that has all of these facts is excused
abbrev pub IsUnexcused : List (List Literal) → List Literal → Type 0
IsUnexcused excuses more = (n : Attached) (points : ℕ → Point) (list : List ℕ)
    → All (IsSoAt n points list) more → IsExcused n excuses points list → ⊥

-- whatever meets the new nogood meets the old one, over any library, network and choices
abbrev pub NarrowsAll : Nogood → Nogood → Type 0
NarrowsAll old new = (library : List Stored) (n : Attached) (choices : List Choice)
    → Narrows library n choices old new

-- The search took up the nogood g. Each nogood that it keeps now it kept before, or is g. The
-- premises that count as refuted did before, or g is the nogood without facts that rests on them.
-- All else stays.
pub record Recalls (old : Search) (g : Nogood) (new : Search) : Type 0 where
  pub kept : (h : Nogood) → IsKeptIn new.spread.nogoods h
      → IsKeptIn old.spread.nogoods h ⊎ (h ≡ g)
  pub root : new.spread.root ≡ old.spread.root
  pub refuted : IfSome new.refuted (λ by. (g ≡ bare by) ⊎ (old.refuted ≡ Some by))
  pub others : new ≡ record old { spread = new.spread; refuted = new.refuted }

-- What lessons become once a search has taught some. The network and the choices stay. Where these
-- are the search's own, and nothing met any of the old nogoods, nothing meets any of the new ones.
pub record Teaches (s : Search) (old new : Taught) : Type 0 where
  pub same : (new.attached ≡ old.attached) × (new.choices ≡ old.choices)
  pub taught : (library : List Stored) (d : Data) (premises : List Origin)
      → (old.attached ≡ attached_of d) → (old.choices ≡ choices_of premises)
      → IsSearch library d premises s → AreTaught library old → AreTaught library new
