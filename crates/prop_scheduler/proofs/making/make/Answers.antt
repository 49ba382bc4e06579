use Rattle.std.proofs.Common.{◌≡◌, ◌<◌, ◌≤◌, ◌∙◌, ◌++◌, map, length, ap, sym, arith}
use Rattle.std.proofs.lemmas.List.{length-append}
use Rattle.std.proofs.lemmas.List.Elements.{All-weaker}
use Rattle.prop_numbers.specs.Sets.{set_of}
use Rattle.prop_procedures.specs.Kept.{stored_of}
use Rattle.prop_scheduler.specs.Making.{made_of}
use Rattle.std.specs.Prelude.{drop}
use Rattle.prop_scheduler.specs.Agendas.{all_alerted, numbers_below}
use Rattle.prop_scheduler.proofs.KnownLaws.{as_known, fresh_known}
use Rattle.prop_scheduler.proofs.UnderWay.{under_way_made}
use Rattle.prop_scheduler.proofs.WatchLaws.{watched_fresh}
use Rattle.prop_scheduler.proofs.making.make.Goals as goal

pub returns-clause-alive : goal.returns-clause-alive
returns-clause-alive g c = λ s was. record {
  under_way = (let d = c.args.live.now.network.cells in
      let new = c.make_all.new.network.cells in
      let flat = c.args.flat in
      let library = stored_of g.R.Rule.value_of c.args.live.now.network.library in
      let made = map (made_of library flat.params.items c.args.cells.now (length d.kinds)) flat.instances.items in
      let is = c.in_ok-make_all.ensures.ok in
      let count = c.instances.ensures.count in
      let first = c.instances-first.ensures.count in
      let all : length new.instances ≡ length (d.instances ++ made) = ap (λ x. length x.instances) is in
      let more = length-append d.instances made in
      rw c.make_all.ensures.same (under_way_made library s d new c.args.live.now.agenda.line
      c.alert_between.new.agenda.line
      flat.fresh.items flat.params.items made
      was.under_way (rw c.make_all.ensures.same at c.make_all.ensures.kept) is
      (λ i waits. c.alert_between.ensures.before i (rw c.in_default.ensures.line waits))
      (λ i from below. c.alert_between.ensures.alerted i (omega (arith, from, first)) (omega (
        arith,
        below,
        count,
        all,
      )))
      (c.alert_between.ensures.below (length (d.instances ++ made)) (omega (arith, count, all))
      (rw c.in_default.ensures.line (All-weaker (λ j. j < length d.instances) (λ j. j < length (d.instances ++ made))
      (λ j l. omega (arith, l, more)) c.args.live.now.agenda.line was.under_way.line_below)))));
  watched = (let d = c.args.live.now.network.cells in
      let new = c.make_all.new.network.cells in
      let is = c.in_ok-make_all.ensures.ok in
      let kinds : new.kinds ≡ d.kinds ++ c.args.flat.fresh.items = ap (λ x. x.kinds) is in
      let more : length d.kinds ≤ length new.kinds =
      rw kinds (let n = length-append d.kinds c.args.flat.fresh.items in omega (arith, n)) in
      rw (c.alert_between.ensures.watched, c.in_default.ensures.watched)
      (watched_fresh s d new c.args.live.now.agenda.watched c.args.flat.fresh.items (ap (λ x. x.contents) is) more
      was.watched));
}

pub alert_between-requires-clause-order : goal.alert_between-requires-clause-order
alert_between-requires-clause-order g c =
    let d = c.args.live.now.network.cells in
    let flat = c.args.flat in
    let library = stored_of g.R.Rule.value_of c.args.live.now.network.library in
    let made = map (made_of library flat.params.items c.args.cells.now (length d.kinds)) flat.instances.items in
    let all : length c.make_all.new.network.cells.instances ≡ length (d.instances ++ made) =
    ap (λ x. length x.instances) c.in_ok-make_all.ensures.ok in
    let more = length-append d.instances made in
    let count = c.instances.ensures.count in
    let first = c.instances-first.ensures.count in
    omega (arith, all, more, count, first)

pub returns-clause-made : goal.returns-clause-made
returns-clause-made g c =
    rw (sym c.instances-first.ensures.count, sym c.instances.ensures.count)
    (c.alert_between.ensures.line
    ∙ ap (λ line. all_alerted line (drop c.instances-first.result (numbers_below c.instances.result)))
    c.in_default.ensures.line)

pub invariant_of-live : goal.invariant_of-live
invariant_of-live g c =
    let room = c.args.live.now.room in
    let cells = c.args.live.now.cells in
    let more = c.make_room.ensures.more in
    let more_cells = c.make_room.ensures.more_cells in
    record {
      room = omega (arith, room, more);
      cells = omega (arith, cells, more_cells);
      beliefs = as_known (set_of c.args.live.now.seen.worldview) c.args.live.now.network.cells.contents
          c.args.live.now.seen.known c.make_room.new.known c.make_room.ensures.known c.args.live.now.beliefs;
    }

pub invariant_of-live-2-clause-beliefs : goal.invariant_of-live-2-clause-beliefs
invariant_of-live-2-clause-beliefs g c =
    let s = set_of c.args.live.now.seen.worldview in
    let contents = c.args.live.now.network.cells.contents in
    rw (ap (λ x. x.contents) c.in_ok-make_all.ensures.ok) (fresh_known s contents c.args.flat.fresh.items
    c.make_room.new.known (as_known s contents c.args.live.now.seen.known c.make_room.new.known
    c.make_room.ensures.known c.args.live.now.beliefs))
