use Rattle.std.proofs.Common.{◌≡◌, ◌+◌, ◌==◌, ◌++◌, All, length}
use Rattle.prop_origins.specs.Pruned.{pruned, marked_in}
use Rattle.prop_origins.specs.inner.Logs.{IsPartWithin}
use Rattle.prop_origins.proofs.pruning.prune.Given as goal

abbrev pub invariant-loop : goal.invariant-loop
invariant-loop l = record {
  count : length l.marks.items ≡ l.cells;
  left : length l.parts.items + l.counter ≡ length l.initial.parts.items;
  within : All (IsPartWithin l.cells) l.parts.items;
  kept : pruned (λ c. c == l.cell) l.initial.parts.items
      ≡ l.kept.items ++ pruned (marked_in l.marks.items) l.parts.items;
}
