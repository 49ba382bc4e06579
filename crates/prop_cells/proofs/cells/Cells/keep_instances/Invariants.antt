use Rattle.std.proofs.Common.{◌≡◌, length, take}
use Rattle.prop_cells.proofs.cells.Cells.keep_instances.Given as goal

abbrev pub invariant-loop-self : goal.invariant-loop-self
invariant-loop-self l = record {
  rest : l.self ≡ record l.initial.self { instances = l.self.instances };
  front : take l.count l.self.instances ≡ take l.count l.initial.self.instances;
}

abbrev pub decreases-loop-self : goal.decreases-loop-self
decreases-loop-self l = length l.self.instances
