-- Parts that make up a value of a cell. Each is founded: it is a statement, or the answer of an
-- instance to what the parts behind it say.
use Rattle.std.specs.Prelude.{◌≡◌, ◌==◌, ℕ, IsTrue, List, [], ◌∷◌, map, Some, ⊤, slice_get, All}
use Rattle.std.specs.List.{list_any}
use Rattle.prop_lattice.specs.declared.info.Info.{Info}
use Rattle.prop_lattice.specs.Order.{Below}
use Rattle.prop_lattice.specs.Rank.{IsOf}
use Rattle.prop_numbers.specs.Sets.{set_of, IsSame}
use Rattle.prop_procedures.specs.Stored.{Stored}
use Rattle.prop_procedures.specs.Fitting.{kind_at}
use Rattle.prop_contents.specs.Contents.{support_of}
use Rattle.prop_cells.specs.declared.instance.Statement.{Statement}
use Rattle.prop_cells.specs.Problems.{is_member, value_at}
use Rattle.prop_cells.specs.inner.Problems.{Premises, Satisfies}
use Rattle.prop_cells.specs.Instances.{Instance, constraint_of}
use Rattle.prop_cells.specs.Data.{Data}
use Rattle.prop_origins.specs.declared.part.Origin.{Origin}
use Rattle.prop_origins.specs.declared.part.Origin.TheVariants.{Told, Called}
use Rattle.prop_origins.specs.Parts.{Part, made, rests_on, calls_in, AreWanted}

-- the part is what the statement with number n says, whose premise is in the set, or which has none
pub record IsTold (d : Data) (s : Premises) (n : ℕ) (p : Part) : Type 0 where
  pub statement : Statement
  pub at : slice_get d.statements n ≡ Some statement
  pub member : IsTrue (is_member s statement.premise)
  pub is : p ≡ record {
    origin = Told n;
    cell = statement.cell;
    inputs = [];
    args = [];
    value = statement.info;
    support = support_of statement.premise;
  }

-- The part is what the instance with number n answers to what the parts behind it say of its
-- inputs. It rests on all premises on which those parts rest at the inputs.
pub record IsCalled (library : List Stored) (d : Data) (behind : List Part) (n : ℕ) (p : Part) :
    Type 0 where
  pub instance : Instance
  pub at : slice_get d.instances n ≡ Some instance
  pub cell : p.cell ≡ instance.output
  pub inputs : p.inputs ≡ instance.inputs
  pub args : p.args ≡ map (made behind) instance.inputs
  pub value : p.value ≡ value_at (constraint_of library instance) (made behind)
  pub support : IsSame (set_of p.support)
      (λ q. list_any (λ input. rests_on behind input q) instance.inputs)

-- the part comes from what its origin names: a statement or a call
abbrev pub IsFrom : List Stored → Data → Premises → List Part → Part → Origin → Type 0
IsFrom library d s behind p (Told n) = IsTold d s n p
IsFrom library d s behind p (Called n) = IsCalled library d behind n p

-- The part comes from a statement, or from a call on the parts behind it. Its value is of its
-- cell's kind, and isn't already said by the parts behind it.
pub record IsFounded (library : List Stored) (d : Data) (s : Premises) (behind : List Part)
    (p : Part) : Type 0 where
  pub from : IsFrom library d s behind p p.origin
  pub of_kind : IsOf (kind_at d.kinds p.cell).kind (kind_at d.kinds p.cell).size p.value
  pub more : ¬ (Below p.value (made behind p.cell))

-- each part is founded on those behind it
abbrev pub AreFounded : List Stored → Data → Premises → List Part → Type 0
AreFounded library d s [] = ⊤
AreFounded library d s (p ∷ behind) = IsFounded library d s behind p × AreFounded library d s behind

-- The parts make up the value v of the cell. They are founded, together they say v of it, and each
-- part is at the cell or at a cell that a part before it reads.
pub record MakeUp (library : List Stored) (d : Data) (s : Premises) (cell : ℕ) (v : Info)
    (parts : List Part) : Type 0 where
  pub founded : AreFounded library d s parts
  pub enough : Below v (made parts cell)
  pub wanted : AreWanted (λ c. c == cell) parts

-- So many calls need not be enough for the value v of the cell. There are founded parts with that
-- many calls that say all that is stated under the set, and yet don't say v of the cell.
pub record FallShort (library : List Stored) (d : Data) (s : Premises) (cell : ℕ) (v : Info)
    (calls : ℕ) : Type 0 where
  pub parts : List Part
  pub founded : AreFounded library d s parts
  pub calls_are : calls_in parts ≡ calls
  pub heard : All (Satisfies s (made parts)) d.statements
  pub short : ¬ (Below v (made parts cell))
