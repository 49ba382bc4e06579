use Rattle.std.proofs.Common.{◌≡◌, drop, ◌||◌}
use Rattle.prop_many.specs.Differ.{any_crowded, before_all, past_all}
use Rattle.prop_many.proofs.differ.left.Given as goal

abbrev pub invariant-loop-other : goal.invariant-loop-other
invariant-loop-other l = record {
  earliest : past_all l.others (drop l.other-index l.others) l.low l.earliest
      ≡ past_all l.others l.others l.low l.low;
  latest : before_all l.others (drop l.other-index l.others) l.high l.latest
      ≡ before_all l.others l.others l.high l.high;
  crowded : (l.is_crowded || any_crowded l.others (drop l.other-index l.others))
      ≡ any_crowded l.others l.others;
}
