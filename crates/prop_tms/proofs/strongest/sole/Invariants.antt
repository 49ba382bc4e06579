use Rattle.std.proofs.Common.{◌≡◌, ◌++◌, map, take, option_to_list}
use Rattle.prop_numbers.specs.Sets.{set_of}
use Rattle.prop_tms.specs.Beliefs.{believed_of}
use Rattle.prop_tms.specs.inner.Gains.{entry_of}
use Rattle.prop_tms.specs.Values.{entries_of}
use Rattle.prop_tms.proofs.ValueLemmas.{with_value}
use Rattle.prop_tms.proofs.strongest.sole.Given as goal

abbrev pub invariant-loop-valued : goal.invariant-loop-valued
invariant-loop-valued g l = map entry_of (option_to_list l.found) ≡ believed_of (set_of l.worldview)
    (entries_of (take l.valued-index l.values))

abbrev pub invariant-loop-support : goal.invariant-loop-support
invariant-loop-support g l =
    map entry_of (option_to_list l.found) ≡
    believed_of (set_of l.worldview) (entries_of (take l.valued-index l.values)) ++ believed_of (set_of l.worldview)
    (with_value l.valued.value (take l.support-index l.valued.supports.items))
