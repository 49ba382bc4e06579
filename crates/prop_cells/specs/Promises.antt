-- Laws that follow from the definitions alone.
use Rattle.std.specs.Prelude.{◌≡◌, ℕ}
use Rattle.prop_lattice.specs.declared.info.Info.{Info}
use Rattle.prop_lattice.specs.declared.info.Info.TheVariants.{Contradiction}
use Rattle.prop_numbers.specs.Sets.{IsPart}
use Rattle.prop_cells.specs.Problems.{Problem, Assignment, IsLeastSolution, Entails}
use Rattle.prop_cells.specs.inner.Problems.{Premises}
use Rattle.prop_cells.specs.Problems.{Extends}
use Rattle.prop_cells.specs.inner.Problems.{IsContradictory}
use Rattle.prop_cells.specs.Reach.{Reaches}
use Rattle.prop_cells.specs.inner.Reach.{IsRelatedAt}

-- two least solutions are the same, cell by cell
abbrev pub LeastIsUnique : Type 0
LeastIsUnique =
    (problem : Problem) (s : Premises) (a b : Assignment) → IsLeastSolution problem s a
    → IsLeastSolution problem s b → (cell : ℕ) → a cell ≡ b cell

-- what premises entail, these and more entail, too
abbrev pub EntailmentGrows : Type 0
EntailmentGrows = (problem : Problem) (s t : Premises) (cell : ℕ) (v : Info) → IsPart s t
    → Entails problem s cell v → Entails problem t cell v

-- where premises are contradictory, these and more are, too
abbrev pub ContradictionGrows : Type 0
ContradictionGrows = (problem : Problem) (s t : Premises) → IsPart s t → IsContradictory problem s
    → IsContradictory problem t

-- a set that entails a contradiction at some cell is contradictory
abbrev pub EntailedClashRefutes : Type 0
EntailedClashRefutes = (problem : Problem) (s : Premises) (cell : ℕ)
    → Entails problem s cell Contradiction → IsContradictory problem s

-- what is entailed stays entailed as cells, statements and instances are added
abbrev pub EntailmentStays : Type 0
EntailmentStays = (old new : Problem) (s : Premises) (cell : ℕ) (v : Info) → Extends old new
    → Entails old s cell v → Entails new s cell v

-- what is contradictory stays so as these are added
abbrev pub ContradictionStays : Type 0
ContradictionStays = (old new : Problem) (s : Premises) → Extends old new → IsContradictory old s
    → IsContradictory new s

-- what a premise reaches it still reaches as these are added
abbrev pub ReachStays : Type 0
ReachStays = (old new : Problem) (p cell : ℕ) → Extends old new → Reaches old p cell
    → Reaches new p cell

-- where each premise of a set reaches a cell, it still does as these are added
abbrev pub RelationStays : Type 0
RelationStays = (old new : Problem) (cell : ℕ) (s : Premises) → Extends old new
    → IsRelatedAt old cell s → IsRelatedAt new cell s
