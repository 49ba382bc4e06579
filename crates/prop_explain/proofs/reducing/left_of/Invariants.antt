use Rattle.std.proofs.Common.{◌≡◌, ◌++◌}
use Rattle.prop_numbers.specs.Sets.{set_of, IsPart}
use Rattle.prop_procedures.specs.Kept.{stored_of}
use Rattle.prop_cells.specs.Data.{problem_of}
use Rattle.prop_scheduler.specs.Live.{IsLiveIn}
use Rattle.prop_explain.proofs.ReducingLaws.{HasTried}
use Rattle.prop_explain.proofs.TryingLaws.{AreTried}
use Rattle.prop_explain.proofs.reducing.left_of.Given as goal

abbrev pub invariant-loop-premise : goal.invariant-loop-premise
invariant-loop-premise g l = record {
  claim : l.trial.claim ≡ record { cell = l.cell; value = l.why.value };
  so_far : l.yielded ++ l.premise-iterator ≡ l.why.support;
  same : l.live.network.library ≡ l.fn.live.network.library;
  done : HasTried g.O.Order.picks (stored_of g.R.Rule.value_of l.fn.live.network.library) (set_of l.why.support)
      l.fn.live.network.cells l.fn.live.agenda l.fn.order l.budget l.yielded l.premise-iterator (set_of l.trial.support)
      (set_of l.trial.believed) l.steps l.live.network.cells l.live.agenda l.order;
  alive : IsLiveIn g.R.Rule.value_of (set_of l.trial.believed) l.live;
  tried : AreTried (problem_of (stored_of g.R.Rule.value_of l.fn.live.network.library) l.fn.live.network.cells) l.cell
      l.why.value
      l.yielded (set_of l.trial.support);
  part : IsPart (set_of l.trial.support) (set_of l.why.support);
}
