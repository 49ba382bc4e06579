use Rattle.std.proofs.Common.{◌≡◌, ◌≤◌, map, length}
use Rattle.prop_procedures.specs.Kept.{stored_of}
use Rattle.prop_seeking.specs.inner.Seekers.{IsInquiry, IsSameQuestion, AreFound, ground_at, plan_of}
use Rattle.prop_seeking.proofs.inquiry.Inquiry.list.Given as goal

abbrev pub invariant-loop : goal.invariant-loop
invariant-loop g l = record {
  inquiry : IsInquiry (ground_at (stored_of g.R.Rule.value_of l.network.library) l.network.cells l.premises) l.self;
  same : IsSameQuestion l.initial.self l.self;
  found : AreFound (ground_at (stored_of g.R.Rule.value_of l.network.library) l.network.cells l.premises)
      l.initial.self.solver.named l.counter l.initial.self.solver.excuses l.self.solver.excuses
      (map plan_of l.plans.found.items);
}
