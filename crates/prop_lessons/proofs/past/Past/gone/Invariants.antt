use Rattle.std.proofs.Common.{◌≤◌, All, take}
use Rattle.prop_numbers.specs.Sets.{set_of}
use Rattle.prop_lessons.specs.inner.Standing.{IsThereOrGone}
use Rattle.prop_lessons.proofs.past.Past.gone.Given as goal

abbrev pub invariant-loop-statement : goal.invariant-loop-statement
invariant-loop-statement l = record {
  passed : l.at ≤ l.statement-index;
  there : All (IsThereOrGone l.cells.statements (set_of l.gone))
      (take l.statement-index l.self.attached.statements);
}
