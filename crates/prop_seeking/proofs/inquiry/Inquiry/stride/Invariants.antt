use Rattle.std.proofs.Common.{◌≡◌}
use Rattle.prop_procedures.specs.Kept.{stored_of}
use Rattle.prop_seeking.specs.inner.Seekers.{IsInquiry, IsSameQuestion, ground_at}
use Rattle.prop_seeking.proofs.inquiry.Inquiry.stride.Given as goal

abbrev pub invariant-loop : goal.invariant-loop
invariant-loop g l = record {
  inquiry : IsInquiry (ground_at (stored_of g.R.Rule.value_of l.network.library) l.network.cells l.premises) l.self;
  same : IsSameQuestion l.fn.self l.self;
  last : l.self.last ≡ l.fn.self.last;
}
