use Rattle.std.proofs.Common.{◌≡◌, ◌∙◌, ◌<◌, ap, sym, length, arith}
use Rattle.std.proofs.lemmas.List.Elements.{All-weaker}
use Rattle.prop_lattice.specs.Order.{merge_of}
use Rattle.prop_numbers.specs.Sets.{set_of}
use Rattle.prop_procedures.specs.Kept.{stored_of}
use Rattle.prop_contents.specs.Contents.{beliefs}
use Rattle.prop_cells.specs.Instances.{readers_of}
use Rattle.prop_cells.specs.Data.{IsKept}
use Rattle.prop_cells.proofs.Reading.{readers_are}
use Rattle.prop_cells.proofs.KnowingLaws.{known_merged}
use Rattle.prop_scheduler.specs.Agendas.{all_alerted}
use Rattle.prop_scheduler.proofs.Stirring.{stirs_none, stirs_one, states_more}
use Rattle.prop_scheduler.proofs.KnownLaws.{same_known, kept_known}
use Rattle.prop_scheduler.proofs.UnderWay.{under_way_same, under_way_grown, states_merge, states_same, states_clear}
use Rattle.prop_scheduler.proofs.UnderWay.{states_believed}
use Rattle.prop_scheduler.proofs.WatchLaws.{watched_at, watched_same, watched_clear, same_but}
use Rattle.prop_scheduler.proofs.stating.state.Goals as goal

pub alert_all-requires : goal.alert_all-requires
alert_all-requires g c =
    let new = c.state_under.new.self.cells in
    let same = ap (λ d. length d.instances) c.in_ok-state_under.ensures.ok.rest in
    rw c.readers.ensures (All-weaker (λ j. j < length new.instances) (λ j. j < c.args.live.now.agenda.room)
    (λ j h. let r = c.args.live.now.room in omega (arith, h, same, r)) (readers_of new.instances c.args.cell)
    (readers_are new.instances c.args.cell).below)

pub returns-then-is_contradiction-clause-alive : goal.returns-then-is_contradiction-clause-alive
returns-then-is_contradiction-clause-alive g c =
    record {
      under_way = (let library = stored_of g.R.Rule.value_of c.args.live.now.network.library in
          let new = c.state_under.new.self.cells in
          let kept : IsKept library new = rw c.state_under.ensures.same at c.state_under.ensures.kept in
          rw (c.watch.ensures.line, c.state_under.ensures.same)
          (under_way_grown library (set_of c.args.worldview.now) c.args.live.now.network.cells new
          c.args.live.now.agenda.line
          c.alert_all.new.self.line c.readers.result.now _ c.requires.alive.under_way kept
          c.in_ok-state_under.ensures.ok
          c.alert_all.ensures.alerted c.readers.ensures));
      watched = (let s = set_of c.args.worldview.now in
          let old = c.args.live.now.network.cells in
          let new = c.state_under.new.self.cells in
          let merge = states_merge s old new _ c.in_ok-state_under.ensures.ok in
          watched_at s old new c.args.live.now.agenda.watched c.watch.new.self.watched c.args.cell
          (ap (λ d. length d.kinds) c.in_ok-state_under.ensures.ok.rest) c.requires.cell merge.1.others
          (rw c.alert_all.ensures.watched at c.watch.ensures.watched) c.requires.alive.watched);
    }

pub returns-else-is_contradiction-clause-alive : goal.returns-else-is_contradiction-clause-alive
returns-else-is_contradiction-clause-alive g c =
    record {
      under_way = (let library = stored_of g.R.Rule.value_of c.args.live.now.network.library in
          let new = c.state_under.new.self.cells in
          let kept : IsKept library new = rw c.state_under.ensures.same at c.state_under.ensures.kept in
          rw c.state_under.ensures.same (under_way_grown library (set_of c.args.worldview.now)
          c.args.live.now.network.cells new
          c.args.live.now.agenda.line c.alert_all.new.self.line c.readers.result.now _ c.requires.alive.under_way kept
          c.in_ok-state_under.ensures.ok c.alert_all.ensures.alerted c.readers.ensures));
      watched = (let s = set_of c.args.worldview.now in
          let old = c.args.live.now.network.cells in
          let new = c.state_under.new.self.cells in
          let states = c.in_ok-state_under.ensures.ok in
          let both : c.merge-after.result ≡ merge_of (beliefs s old.contents c.args.cell) c.args.info =
          rw c.known_belief-before.ensures.value at c.merge-after.ensures in
          let clear = states_clear s old new _ states
          (λ clash. cc (c.is_contradiction.ensures.1 (both ∙ clash), c.if-is_contradiction.false)) in
          rw c.alert_all.ensures.watched (watched_clear s old new c.args.live.now.agenda.watched c.args.cell
          (ap (λ d. length d.kinds) states.rest) (states_merge s old new _ states).1.others clear
          c.requires.alive.watched));
    }

pub returns-else-says_more-clause-alive : goal.returns-else-says_more-clause-alive
returns-else-says_more-clause-alive g c =
    record {
      under_way = (let library = stored_of g.R.Rule.value_of c.args.live.now.network.library in
          let s = set_of c.args.worldview.now in
          let old = c.args.live.now.network.cells in
          let new = c.state_under.new.self.cells in
          let kept : IsKept library new = rw c.state_under.ensures.same at c.state_under.ensures.kept in
          let same = states_same s old new _ c.in_ok-state_under.ensures.ok
          (rw c.known_belief-before.ensures.value at (c.says_more.ensures.less c.if-says_more.false)) in
          rw c.state_under.ensures.same (under_way_same library s old new c.args.live.now.agenda.line _
          c.requires.alive.under_way kept
          c.in_ok-state_under.ensures.ok same));
      watched = (let s = set_of c.args.worldview.now in
          let old = c.args.live.now.network.cells in
          let new = c.state_under.new.self.cells in
          let kinds = ap (λ d. length d.kinds) c.in_ok-state_under.ensures.ok.rest in
          let merge = states_merge s old new _ c.in_ok-state_under.ensures.ok in
          let here = states_same s old new _ c.in_ok-state_under.ensures.ok
          (rw c.known_belief-before.ensures.value at (c.says_more.ensures.less c.if-says_more.false)) in
          watched_same s old new c.args.live.now.agenda.watched (omega (arith, kinds))
          (same_but s old new c.args.cell here merge.1.others) c.requires.alive.watched);
    }

pub returns-then-is_contradiction-clause-stirred : goal.returns-then-is_contradiction-clause-stirred
returns-then-is_contradiction-clause-stirred g c =
    let s = set_of c.args.worldview.now in
    let old = c.args.live.now.network.cells in
    let new = c.state_under.new.self.cells in
    let states = c.in_ok-state_under.ensures.ok in
    let within : c.args.cell < length new.kinds =
    let kinds = ap (λ d. length d.kinds) states.rest in let cell = c.requires.cell in omega (arith, kinds, cell) in
    let said = c.says_more.ensures.more c.if-says_more.true in
    let more = states_more s old new (record { premise = c.args.premise; cell = c.args.cell; info = c.args.info })
    states said.0 (rw c.known_belief-before.ensures.value at said.1) in
    let line : c.alert_all.new.self.line ≡ all_alerted c.args.live.now.agenda.line (readers_of new.instances
    c.args.cell) =
    rw c.readers.ensures at c.alert_all.ensures.line in
    rw (c.watch.ensures.line, line) (stirs_one (readers_of new.instances) s s old new c.args.live.now.agenda.line (length new.kinds)
    c.args.cell within more (λ k other. sym ((states_merge s old new _ states).1.others k other)))

pub returns-else-is_contradiction-clause-stirred : goal.returns-else-is_contradiction-clause-stirred
returns-else-is_contradiction-clause-stirred g c =
    let s = set_of c.args.worldview.now in
    let old = c.args.live.now.network.cells in
    let new = c.state_under.new.self.cells in
    let states = c.in_ok-state_under.ensures.ok in
    let within : c.args.cell < length new.kinds =
    let kinds = ap (λ d. length d.kinds) states.rest in let cell = c.requires.cell in omega (arith, kinds, cell) in
    let said = c.says_more.ensures.more c.if-says_more.true in
    let more = states_more s old new (record { premise = c.args.premise; cell = c.args.cell; info = c.args.info })
    states said.0 (rw c.known_belief-before.ensures.value at said.1) in
    let line : c.alert_all.new.self.line ≡ all_alerted c.args.live.now.agenda.line (readers_of new.instances
    c.args.cell) =
    rw c.readers.ensures at c.alert_all.ensures.line in
    rw (line) (stirs_one (readers_of new.instances) s s old new c.args.live.now.agenda.line (length new.kinds)
    c.args.cell within more (λ k other. sym ((states_merge s old new _ states).1.others k other)))

pub returns-else-says_more-clause-stirred : goal.returns-else-says_more-clause-stirred
returns-else-says_more-clause-stirred g c =
    let s = set_of c.args.worldview.now in
    let old = c.args.live.now.network.cells in
    let new = c.state_under.new.self.cells in
    let states = c.in_ok-state_under.ensures.ok in
    let here = states_same s old new _ states
    (rw c.known_belief-before.ensures.value at (c.says_more.ensures.less c.if-says_more.false)) in
    stirs_none (readers_of new.instances) s s old new c.args.live.now.agenda.line (length new.kinds)
    (λ k. sym (same_but s old new c.args.cell here (states_merge s old new _ states).1.others k))

-- ---- what is known

pub known_belief-before-requires-clause-known : goal.known_belief-before-requires-clause-known
known_belief-before-requires-clause-known g c =
    same_known (set_of c.look.new.self.worldview) (set_of c.args.worldview.now) _ _ c.in_ok-look.ensures.same
    c.look.ensures.known

pub invariant_of-live-in-Break-branch-2 : goal.invariant_of-live-in-Break-branch-2
invariant_of-live-in-Break-branch-2 g c = record {
  room = rw c.in_err-state_under.ensures.err_same c.args.live.now.room;
  cells = rw c.in_err-state_under.ensures.err_same c.args.live.now.cells;
  beliefs = rw c.in_err-state_under.ensures.err_same
      (same_known (set_of c.args.worldview.now) (set_of c.look.new.self.worldview) _ _
      (λ p. sym (c.in_ok-look.ensures.same p)) c.known_belief-before.ensures.known);
}

pub invariant_of-live-then-is_contradiction-clause-beliefs : goal.invariant_of-live-then-is_contradiction-clause-beliefs
invariant_of-live-then-is_contradiction-clause-beliefs g c =
    let s = set_of c.args.worldview.now in
    let old = c.args.live.now.network.cells in
    let new = c.state_under.new.self.cells in
    same_known s (set_of c.look.new.self.worldview) _ _ (λ p. sym (c.in_ok-look.ensures.same p))
    (known_merged s old.contents new.contents c.known_belief-before.new.known c.merge.new.self c.args.cell c.args.info
    c.known_belief-before.ensures.known
    (states_believed s old new _ c.in_ok-state_under.ensures.ok (c.says_more.ensures.more c.if-says_more.true).0)
    c.merge.ensures.known c.merge.ensures.unknown)

pub invariant_of-live-else-is_contradiction-clause-beliefs : goal.invariant_of-live-else-is_contradiction-clause-beliefs
invariant_of-live-else-is_contradiction-clause-beliefs g c =
    let s = set_of c.args.worldview.now in
    let old = c.args.live.now.network.cells in
    let new = c.state_under.new.self.cells in
    same_known s (set_of c.look.new.self.worldview) _ _ (λ p. sym (c.in_ok-look.ensures.same p))
    (known_merged s old.contents new.contents c.known_belief-before.new.known c.merge.new.self c.args.cell c.args.info
    c.known_belief-before.ensures.known
    (states_believed s old new _ c.in_ok-state_under.ensures.ok (c.says_more.ensures.more c.if-says_more.true).0)
    c.merge.ensures.known c.merge.ensures.unknown)

pub invariant_of-live-else-says_more-clause-beliefs : goal.invariant_of-live-else-says_more-clause-beliefs
invariant_of-live-else-says_more-clause-beliefs g c =
    let s = set_of c.args.worldview.now in
    let old = c.args.live.now.network.cells in
    let new = c.state_under.new.self.cells in
    let states = c.in_ok-state_under.ensures.ok in
    let here = states_same s old new _ states
    (rw c.known_belief-before.ensures.value at (c.says_more.ensures.less c.if-says_more.false)) in
    same_known s (set_of c.look.new.self.worldview) _ _ (λ p. sym (c.in_ok-look.ensures.same p))
    (kept_known s old.contents new.contents _
    (same_but s old new c.args.cell here (states_merge s old new _ states).1.others)
    c.known_belief-before.ensures.known)
