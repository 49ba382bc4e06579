use Rattle.std.proofs.Common.{take}
use Rattle.std.specs.List.{list_any}
use Rattle.prop_numbers.specs.Sets.{set_of, IsSame}
use Rattle.prop_origins.specs.Parts.{rests_on}
use Rattle.prop_origins.proofs.log.Log.support.Given as goal

abbrev pub invariant-loop-cell : goal.invariant-loop-cell
invariant-loop-cell l =
    IsSame (set_of l.support) (λ q. list_any (λ cell. rests_on l.self.parts cell q) (take l.cell-index l.cells))
