use Rattle.std.proofs.Common.{◌≡◌, take, false}
use Rattle.std.specs.List.{list_any}
use Rattle.prop_numbers.specs.Sets.{set_of, is_within}
use Rattle.prop_hitting.proofs.conflict.has_all_of_one.Given as goal

abbrev pub invariant-loop-other : goal.invariant-loop-other
invariant-loop-other l =
    list_any (λ other. is_within (set_of l.set) other) (take l.other-index l.others) ≡ false
