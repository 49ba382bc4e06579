use Rattle.std.proofs.Common.{◌≡◌, ◌≤◌, ◌⊎◌, [], All, length}
use Rattle.std.specs.List.{range_with_len}
use Rattle.prop_lattice.specs.Order.{Below}
use Rattle.prop_numbers.specs.Sets.{set_of}
use Rattle.prop_procedures.specs.Kept.{stored_of}
use Rattle.prop_cells.specs.Data.{problem_of}
use Rattle.prop_cells.specs.inner.Problems.{Satisfies}
use Rattle.prop_origins.specs.Founded.{AreFounded}
use Rattle.prop_origins.specs.Parts.{made, calls_in}
use Rattle.prop_origins.specs.inner.Proceeding.{Proceeds}
use Rattle.prop_origins.proofs.making.make.Given as goal

abbrev pub invariant-loop : goal.invariant-loop
invariant-loop g l = record {
  cells : l.log.cells ≡ length l.network.cells.kinds;
  line : l.line.count ≡ length l.network.cells.instances;
  founded : AreFounded (stored_of g.R.Rule.value_of l.network.library) l.network.cells (set_of l.premises) l.log.parts;
  proceeds : Proceeds (problem_of (stored_of g.R.Rule.value_of l.network.library) l.network.cells) 0
      (range_with_len 0 (length l.network.cells.instances)) l.line.line (made []) (made l.log.parts);
  went : Below l.claim.value (made l.log.parts l.claim.cell)
      ⊎ ((calls_in l.log.parts ≡ l.counter)
      × Proceeds (problem_of (stored_of g.R.Rule.value_of l.network.library) l.network.cells) l.counter
      (range_with_len 0 (length l.network.cells.instances)) l.line.line (made []) (made l.log.parts));
  few : calls_in l.log.parts ≤ l.counter;
  heard : All (Satisfies (set_of l.premises) (made l.log.parts)) l.network.cells.statements;
}
