use Rattle.std.proofs.Common.{◌≡◌, length, take, filter, not}
use Rattle.prop_numbers.specs.Sets.{set_of, is_at_most_one_of}
use Rattle.prop_tms.specs.Values.{entries_of}
use Rattle.prop_tms.proofs.trimming.count_derived.Given as goal

abbrev pub invariant-loop-valued : goal.invariant-loop-valued
invariant-loop-valued g l = l.count ≡ length
    (filter (λ e. not (is_at_most_one_of (set_of l.told) e.support)) (entries_of (take l.valued-index l.values)))
