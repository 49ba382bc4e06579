use Rattle.std.proofs.Common.{◌≡◌, List, All, take}
use Rattle.prop_numbers.specs.Sets.{set_of}
use Rattle.prop_procedures.specs.Stored.{Stored}
use Rattle.prop_cells.specs.Data.{problem_of}
use Rattle.prop_cells.specs.inner.Problems.{Satisfies}
use Rattle.prop_origins.specs.Founded.{AreFounded}
use Rattle.prop_origins.specs.Parts.{made, calls_in}
use Rattle.prop_origins.specs.inner.Proceeding.{Proceeds}
use Rattle.prop_origins.proofs.making.tell.Given as goal

abbrev pub invariant-loop-number : goal.invariant-loop-number
invariant-loop-number l = record {
  cells : l.log.cells ≡ l.initial.log.cells;
  line : l.line.count ≡ l.initial.line.count;
  founded : (library : List Stored) → AreFounded library l.held (set_of l.premises) l.initial.log.parts
      → AreFounded library l.held (set_of l.premises) l.log.parts;
  proceeds : (library : List Stored) → Proceeds (problem_of library l.held) 0 l.initial.line.line l.line.line
      (made l.initial.log.parts) (made l.log.parts);
  heard : All (Satisfies (set_of l.premises) (made l.log.parts)) (take l.number l.held.statements);
  calls : calls_in l.log.parts ≡ calls_in l.initial.log.parts;
}
