-- What calls of instances tell, and the literals that their arguments make.
use Rattle.std.specs.Prelude.{◌≡◌, ◌≢◌, ◌+◌, ◌<◌, ℕ, List, length, [], ◌∷◌, ◌++◌, map, take, drop}
use Rattle.std.specs.Prelude.{Option, IfSome}
use Rattle.std.specs.List.{AllZip}
use Rattle.prop_lattice.specs.Points.{Point, Holds}
use Rattle.prop_lattice.specs.Rank.{IsOf}
use Rattle.prop_lattice.specs.declared.info.Info.{Info}
use Rattle.prop_lattice.specs.declared.info.Info.TheVariants.{Contradiction}
use Rattle.prop_numbers.specs.Sets.{Members}
use Rattle.prop_procedures.specs.Fitting.{kind_at}
use Rattle.prop_procedures.specs.Stored.{Stored}
use Rattle.prop_procedures.specs.declared.shape.Kinded.{Kinded}
use Rattle.prop_cells.specs.Instances.{Instance}
use Rattle.prop_cells.specs.Points.{Attached, ArePoints}
use Rattle.prop_facts.specs.Facts.{IsSo, parts_of}
use Rattle.prop_facts.specs.declared.fact.Fact.{Fact}
use Rattle.prop_facts.specs.declared.fact.Literal.{Literal}
use Rattle.prop_refuting.specs.Nogoods.{said_at}
use Rattle.prop_plans.specs.Held.{AreHeld}

-- each information is of its cell's kind, and no contradiction
abbrev pub AreArguments : List Kinded → List ℕ → List Info → Type 0
AreArguments kinds = AllZip (λ cell a.
    IsOf (kind_at kinds cell).kind (kind_at kinds cell).size a × (a ≢ Contradiction))

-- in any points that satisfy the network: where those of the instance's inputs lie in the
-- arguments, that of its output lies in the value
pub record Answers (library : List Stored) (n : Attached) (x : Instance) (args : List Info)
    (value : Info) : Type 0 where
  pub arguments : AreArguments n.kinds x.inputs args
  pub holds : (s : Members) (points : ℕ → Point) → ArePoints (AreHeld library) n s points
      → AllZip Holds args (map points x.inputs) → Holds value (points x.output)

-- in any points that satisfy the network: where those of the instance's inputs lie in the
-- arguments, and the rest is so of that of its output, the fact is so of this too
pub record Tells (library : List Stored) (n : Attached) (x : Instance) (args : List Info)
    (rest : Option Fact) (fact : Fact) : Type 0 where
  pub arguments : AreArguments n.kinds x.inputs args
  pub told : (s : Members) (points : ℕ → Point) → ArePoints (AreHeld library) n s points
      → AllZip Holds args (map points x.inputs) → IfSome rest (λ r. IsSo r (points x.output))
      → IsSo fact (points x.output)

-- in any points that satisfy the network: where those of the instance's inputs, without the one at
-- this place, lie in the arguments, the fact is so of that of its output
pub record Excepts (library : List Stored) (n : Attached) (x : Instance) (args : List Info)
    (place : ℕ) (fact : Fact) : Type 0 where
  pub within : place < length args
  pub same : length x.inputs ≡ length args
  pub arguments : AreArguments n.kinds x.inputs args
  pub told : (s : Members) (points : ℕ → Point) → ArePoints (AreHeld library) n s points
      → AllZip Holds (take place args) (map points (take place x.inputs))
      → AllZip Holds (drop (place + 1) args) (map points (drop (place + 1) x.inputs))
      → IsSo fact (points x.output)

-- the facts that say together that each cell lies in its information
abbrev pub literals_of : List ℕ → List Info → List Literal
literals_of (cell ∷ cells) (a ∷ args) =
    said_at cell (parts_of a).first ++ said_at cell (parts_of a).second ++ literals_of cells args
literals_of cells args = []

-- the same for all cells but the one at this place
abbrev pub literals_but : ℕ → List ℕ → List Info → List Literal
literals_but place cells args = literals_of (take place cells) (take place args)
    ++ literals_of (drop (place + 1) cells) (drop (place + 1) args)
