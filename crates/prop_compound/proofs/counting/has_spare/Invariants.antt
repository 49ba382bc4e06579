use Rattle.std.proofs.Common.{◌≡◌, false, take}
use Rattle.std.specs.List.{list_any}
use Rattle.prop_compound.specs.Kept.{all_bare}
use Rattle.prop_compound.specs.Expansion.{spare_of, is_spare}
use Rattle.prop_compound.proofs.counting.has_spare.Given as goal

abbrev pub invariant-loop-step : goal.invariant-loop-step
invariant-loop-step l =
    list_any (spare_of (is_spare (all_bare l.definitions)) l.given) (take l.step-index l.steps) ≡ false
