use Rattle.std.proofs.Common.{ap}
use Rattle.prop_numbers.specs.Sets.{set_of}
use Rattle.prop_procedures.specs.Kept.{stored_of}
use Rattle.prop_scheduler.proofs.KnownLaws.{as_known, one_cell_known}
use Rattle.prop_scheduler.proofs.UnderWay.{under_way_one_cell}
use Rattle.prop_scheduler.proofs.WatchLaws.{watched_one_cell}
use Rattle.prop_scheduler.proofs.making.new_cell.Goals as goal

pub returns-clause-alive : goal.returns-clause-alive
returns-clause-alive g c = λ s was. record {
  under_way = rw c.room_for_cell.ensures.line
      (under_way_one_cell (stored_of g.R.Rule.value_of c.args.live.now.network.library) _ s
      c.args.live.now.network.cells c.new_cell.new.self.cells c.args.live.now.agenda.line c.args.kind
      c.new_cell.result
      (ap (stored_of g.R.Rule.value_of) c.new_cell.ensures.same) c.new_cell.ensures.kept
      c.new_cell.ensures.ok c.new_cell.ensures.err_same was.under_way);
  watched = rw c.room_for_cell.ensures.watched
      (watched_one_cell s c.args.live.now.network.cells c.new_cell.new.self.cells
      c.args.live.now.agenda.watched c.args.kind c.new_cell.result c.new_cell.ensures.ok c.new_cell.ensures.err_same
      was.watched);
}

pub invariant_of-live-2-clause-beliefs : goal.invariant_of-live-2-clause-beliefs
invariant_of-live-2-clause-beliefs g c =
    let s = set_of c.args.live.now.seen.worldview in
    let d = c.args.live.now.network.cells in
    one_cell_known s d c.new_cell.new.self.cells c.room_for_cell.new.known c.args.kind c.new_cell.result
    c.new_cell.ensures.ok c.new_cell.ensures.err_same
    (as_known s d.contents c.args.live.now.seen.known c.room_for_cell.new.known c.room_for_cell.ensures.known
    c.args.live.now.beliefs)
