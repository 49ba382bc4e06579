use Rattle.std.proofs.Common.{◌≡◌, ◌+◌, take}
use Rattle.prop_numbers.specs.Sets.{set_of, union, without, IsSame}
use Rattle.prop_amb.specs.inner.Joined.{others_of}
use Rattle.prop_amb.proofs.joining.joined.Given as goal

abbrev pub invariant-loop-reason : goal.invariant-loop-reason
invariant-loop-reason l = record {
  counted : l.own ≡ l.fn.own + l.reason-index;
  same : IsSame (set_of l.joined) (union (without (set_of l.set) l.premise)
      (others_of l.fn.own (take l.reason-index l.reasons)));
}
