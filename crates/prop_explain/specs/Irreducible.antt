-- Premises that entail an information at a cell, and of which none can be left out.
use Rattle.std.specs.Prelude.{ℕ, IsTrue, List}
use Rattle.prop_lattice.specs.declared.info.Info.{Info}
use Rattle.prop_numbers.specs.Sets.{Members, without}
use Rattle.prop_cells.specs.Problems.{Problem, Entails}
use Rattle.prop_explain.specs.declared.reducing.Core.{Core}
use Rattle.prop_explain.specs.declared.reducing.Core.TheVariants.{Least, NotReduced}

-- the set entails the information at the cell, and without any one of its premises it doesn't
pub record IsIrreducible (problem : Problem) (s : Members) (cell : ℕ) (v : Info) : Type 0 where
  pub entails : Entails problem s cell v
  pub needed : (p : ℕ) → IsTrue (s p) → ¬ (Entails problem (without s p) cell v)

-- where the core is a least one, P holds of its value and its premises
abbrev pub IfLeast : Core → (Info → List ℕ → Type 0) → Type 0
IfLeast (Least e) P = P e.value e.support
IfLeast (NotReduced e) P = Unit {0}

-- where the core was not reduced to a least one, P holds of its value and its premises
abbrev pub IfNotReduced : Core → (Info → List ℕ → Type 0) → Type 0
IfNotReduced (Least e) P = Unit {0}
IfNotReduced (NotReduced e) P = P e.value e.support

-- P holds of the core's value and its premises, however it came about
abbrev pub OfCore : Core → (Info → List ℕ → Type 0) → Type 0
OfCore (Least e) P = P e.value e.support
OfCore (NotReduced e) P = P e.value e.support
