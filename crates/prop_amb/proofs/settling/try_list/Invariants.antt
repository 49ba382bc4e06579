use Rattle.std.proofs.Common.{◌≡◌, ◌≤◌, ◌-◌, length}
use Rattle.prop_procedures.specs.Kept.{stored_of}
use Rattle.prop_numbers.specs.Sets.{set_of}
use Rattle.prop_scheduler.specs.Live.{IsLiveIn}
use Rattle.prop_amb.proofs.OnWay.{Deepening}
use Rattle.prop_amb.proofs.settling.try_list.Given as goal

abbrev pub invariant-loop-tried : goal.invariant-loop-tried
invariant-loop-tried g l = record {
  same : l.live.network.library ≡ l.fn.live.network.library;
  alive : IsLiveIn g.R.Rule.value_of (set_of l.search.worldview) l.live;
  within : l.steps ≤ l.budget;
  way : Deepening g.O.Order.picks (stored_of g.R.Rule.value_of l.fn.live.network.library) l.fn.search
      l.fn.live.network.cells
      l.fn.live.agenda.line l.fn.order l.search l.live.network.cells l.live.agenda.line l.order l.steps;
}

abbrev pub decreases-loop-tried : goal.decreases-loop-tried
decreases-loop-tried g l = length l.search.list - l.search.level
