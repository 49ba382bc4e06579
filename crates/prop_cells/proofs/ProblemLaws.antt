-- What follows from the definitions alone: one least solution, and more where there is more.
use Rattle.std.proofs.Common.{ℕ, Contains}
use Rattle.std.proofs.lemmas.List.Elements.{All-contains}
use Rattle.prop_lattice.specs.laws.OrderLaws.{info_laws}
use Rattle.prop_cells.specs.Problems.{Problem, Extends}
use Rattle.prop_cells.specs.Reach.{Reaches}
use Rattle.prop_cells.specs.Reach.Reaches.{stated, passed}
use Rattle.prop_cells.specs.Promises.{LeastIsUnique, ContradictionStays, RelationStays}
use Rattle.prop_cells.proofs.Fixpoint.{solution_old}

pub least_unique : LeastIsUnique
least_unique problem s a b p q cell =
    info_laws.antisymmetric (a cell) (b cell) ((p.least cell).below b q.solves) ((q.least cell).below a p.solves)

pub contradictory_extends : ContradictionStays
contradictory_extends old new s more none some =
    none (record {
      solution = some.solution;
      solves = solution_old old new s some.solution more some.solves;
      free = some.free;
    })

pub reaches_extends : (old new : Problem) (p : ℕ) (cell : ℕ) → Extends old new → Reaches old p cell → Reaches new p cell
reaches_extends old new p _ more (stated x is_in e) =
    stated x (All-contains (Contains new.statements) old.statements x more.statements is_in) e
reaches_extends old new p _ more (passed c input is_in reads r) =
    passed c input (All-contains (Contains new.constraints) old.constraints c more.constraints is_in) reads
    (reaches_extends old new p input more r)

pub related_extends : RelationStays
related_extends old new cell s more r = λ p h. reaches_extends old new p cell more (r p h)
