use Rattle.std.proofs.Common.{◌≡◌, ◌≢◌, ◌∙◌, ◌<◌, Contains, length, sym, ap, subst, arith, inl, inr}
use Rattle.std.proofs.lemmas.List.Elements.{All-weaker}
use Rattle.prop_lattice.specs.declared.info.Info.{Info}
use Rattle.prop_lattice.specs.Order.{Below}
use Rattle.prop_numbers.specs.Sets.{set_of}
use Rattle.prop_procedures.specs.Kept.{stored_of}
use Rattle.prop_contents.specs.Contents.{beliefs}
use Rattle.prop_cells.specs.Instances.{readers_of, writers_of}
use Rattle.prop_cells.specs.Data.{IsKept}
use Rattle.prop_cells.proofs.Reading.{readers_are, writers_below}
use Rattle.std.proofs.lemmas.List.Sums.{fold-append}
use Rattle.prop_scheduler.specs.Agendas.{AllAlerted, alerted, all_alerted}
use Rattle.prop_scheduler.specs.Shifts.{touching}
use Rattle.prop_scheduler.proofs.Stirring.{stirs_none, stirs_one}
use Rattle.prop_scheduler.proofs.Steps.{all_after_alerts}
use Rattle.prop_lattice.specs.laws.OrderLaws.{info_laws}
use Rattle.prop_scheduler.proofs.KnownLaws.{forgotten_known}
use Rattle.prop_scheduler.proofs.UnderWay.{under_way_sides, grown_sides}
use Rattle.prop_scheduler.proofs.WatchLaws.{watched_at, watched_same, same_but}
use Rattle.prop_scheduler.proofs.sides.state_sides.Goals as goal

pub alert_all-requires : goal.alert_all-requires
alert_all-requires g c =
    let xs = c.state_sides.new.self.cells.instances in
    let same = ap (λ d. length d.instances) c.in_ok-state_sides.ensures.rest in
    let room = c.args.live.now.room in
    rw c.readers.ensures (All-weaker (λ j. j < length xs) (λ j. j < c.args.live.now.agenda.room)
    (λ j h. omega (arith, h, same, room)) (readers_of xs c.args.cell) (readers_are xs c.args.cell).below)

pub alert_all-requires-then-not-implies : goal.alert_all-requires-then-not-implies
alert_all-requires-then-not-implies g c =
    let xs = c.state_sides.new.self.cells.instances in
    let same = ap (λ d. length d.instances) c.in_ok-state_sides.ensures.rest in
    let room = c.args.live.now.room in
    let then = c.alert_all.ensures.room in
    rw c.writers.ensures (All-weaker (λ j. j < length xs) (λ j. j < c.alert_all.new.self.room)
    (λ j h. omega (arith, h, same, room, then)) (writers_of xs c.args.cell) (writers_below xs c.args.cell))

pub returns-then-not-implies-clause-alive : goal.returns-then-not-implies-clause-alive
returns-then-not-implies-clause-alive g c =
    record {
      under_way = (let library = stored_of g.R.Rule.value_of c.args.live.now.network.library in
          let old = c.args.live.now.network.cells in
          let new = c.state_sides.new.self.cells in
          let line = c.args.live.now.agenda.line in
          let mid = c.alert_all.new.self.line in
          let after = c.alert_all-then-not-implies.new.self.line in
          let same : new.instances ≡ old.instances = ap (λ d. d.instances) c.in_ok-state_sides.ensures.rest in
          let kept : IsKept library new = rw c.state_sides.ensures.same at c.state_sides.ensures.kept in
          let read : AllAlerted line mid (readers_of old.instances c.args.cell) =
          rw (c.readers.ensures, same) at c.alert_all.ensures.alerted in
          let written : AllAlerted mid after (writers_of old.instances c.args.cell) =
          rw (c.writers.ensures, same) at c.alert_all-then-not-implies.ensures.alerted in
          let first_below = all_after_alerts (λ k. k < length old.instances) (readers_of old.instances c.args.cell)
          line mid
          (readers_are old.instances c.args.cell).below c.requires.alive.under_way.line_below read in
          let below = all_after_alerts (λ k. k < length old.instances) (writers_of old.instances c.args.cell) mid
          after
          (writers_below old.instances c.args.cell) first_below written in
          rw (c.watch.ensures.line, c.state_sides.ensures.same)
          (under_way_sides library (set_of c.args.worldview.now) old new line after c.args.first c.args.cell
          c.args.infos.now c.requires.alive.under_way kept same c.in_ok-state_sides.ensures.ok
          (λ k w. written.kept k (read.kept k w)) below
          (inr (All-weaker (Contains mid) (Contains after) written.kept (readers_of old.instances c.args.cell)
          read.alerted))));
      watched = (let s = set_of c.args.worldview.now in
          let old = c.args.live.now.network.cells in
          let new = c.state_sides.new.self.cells in
          let grown = grown_sides s old new c.args.first c.args.cell c.args.infos.now
          c.in_ok-state_sides.ensures.ok in
          watched_at s old new c.args.live.now.agenda.watched c.watch.new.self.watched c.args.cell
          (ap (λ d. length d.kinds) c.in_ok-state_sides.ensures.rest) c.requires.cell grown.others
          (rw (c.alert_all-then-not-implies.ensures.watched, c.alert_all.ensures.watched) at c.watch.ensures.watched)
          c.requires.alive.watched);
    }

pub returns-else-not-implies-clause-alive : goal.returns-else-not-implies-clause-alive
returns-else-not-implies-clause-alive g c =
    record {
      under_way = (let library = stored_of g.R.Rule.value_of c.args.live.now.network.library in
          let s = set_of c.args.worldview.now in
          let old = c.args.live.now.network.cells in
          let new = c.state_sides.new.self.cells in
          let same : new.instances ≡ old.instances = ap (λ d. d.instances) c.in_ok-state_sides.ensures.rest in
          let kept : IsKept library new = rw c.state_sides.ensures.same at c.state_sides.ensures.kept in
          let less : Below (beliefs s new.contents c.args.cell) (beliefs s old.contents c.args.cell) =
          rw (c.belief-after.ensures, c.belief-before.ensures) at (c.implies.ensures.0 c.if-not-implies.false) in
          rw c.state_sides.ensures.same (under_way_sides library s old new c.args.live.now.agenda.line
          c.args.live.now.agenda.line
          c.args.first c.args.cell c.args.infos.now c.requires.alive.under_way kept same
          c.in_ok-state_sides.ensures.ok
          (λ k w. w) c.requires.alive.under_way.line_below (inl less)));
      watched = (let s = set_of c.args.worldview.now in
          let old = c.args.live.now.network.cells in
          let new = c.state_sides.new.self.cells in
          let kinds = ap (λ d. length d.kinds) c.in_ok-state_sides.ensures.rest in
          let grown = grown_sides s old new c.args.first c.args.cell c.args.infos.now
          c.in_ok-state_sides.ensures.ok in
          let less : Below (beliefs s new.contents c.args.cell) (beliefs s old.contents c.args.cell) =
          rw (c.belief-after.ensures, c.belief-before.ensures) at (c.implies.ensures.0 c.if-not-implies.false) in
          let here = info_laws.antisymmetric (beliefs s new.contents c.args.cell) (beliefs s old.contents
          c.args.cell) less
          (grown.grown c.args.cell) in
          watched_same s old new c.args.live.now.agenda.watched (omega (arith, kinds))
          (same_but s old new c.args.cell here grown.others) c.requires.alive.watched);
    }

pub returns-then-not-implies-clause-stirred : goal.returns-then-not-implies-clause-stirred
returns-then-not-implies-clause-stirred g c =
    let s = set_of c.args.worldview.now in
    let old = c.args.live.now.network.cells in
    let new = c.state_sides.new.self.cells in
    let line = c.args.live.now.agenda.line in
    let within : c.args.cell < length new.kinds =
    let kinds = ap (λ d. length d.kinds) c.in_ok-state_sides.ensures.rest in let cell = c.requires.cell in
    omega (arith, kinds, cell) in
    let more : beliefs s old.contents c.args.cell ≢ beliefs s new.contents c.args.cell = λ same.
    let below : Below (beliefs s new.contents c.args.cell) (beliefs s old.contents c.args.cell) =
    subst (λ (v : Info). Below v (beliefs s old.contents c.args.cell)) same
    (info_laws.reflexive (beliefs s old.contents c.args.cell)) in
    let all = c.implies.ensures.1 (rw (c.belief-after.ensures, c.belief-before.ensures) below) in
    cc (all, c.if-not-implies.true) in
    let both : c.watch.new.self.line ≡ all_alerted line (touching new.instances c.args.cell) =
    c.watch.ensures.line ∙ (rw c.writers.ensures at c.alert_all-then-not-implies.ensures.line)
    ∙ ap (λ mid. all_alerted mid (writers_of new.instances c.args.cell))
    (rw c.readers.ensures at c.alert_all.ensures.line)
    ∙ sym (fold-append alerted line (readers_of new.instances c.args.cell) (writers_of new.instances c.args.cell)) in
    rw both (stirs_one (touching new.instances) s s old new line (length new.kinds) c.args.cell within more
    (λ k other. sym ((grown_sides s old new c.args.first c.args.cell c.args.infos.now
    c.in_ok-state_sides.ensures.ok).others k other)))

pub returns-else-not-implies-clause-stirred : goal.returns-else-not-implies-clause-stirred
returns-else-not-implies-clause-stirred g c =
    let s = set_of c.args.worldview.now in
    let old = c.args.live.now.network.cells in
    let new = c.state_sides.new.self.cells in
    let grown = grown_sides s old new c.args.first c.args.cell c.args.infos.now
    c.in_ok-state_sides.ensures.ok in
    let less : Below (beliefs s new.contents c.args.cell) (beliefs s old.contents c.args.cell) =
    rw (c.belief-after.ensures, c.belief-before.ensures) at (c.implies.ensures.0 c.if-not-implies.false) in
    let here = info_laws.antisymmetric (beliefs s new.contents c.args.cell) (beliefs s old.contents
    c.args.cell) less
    (grown.grown c.args.cell) in
    stirs_none (touching new.instances) s s old new c.args.live.now.agenda.line (length new.kinds)
    (λ k. sym (same_but s old new c.args.cell here grown.others k))

pub invariant_of-live-then-not-implies-clause-beliefs : goal.invariant_of-live-then-not-implies-clause-beliefs
invariant_of-live-then-not-implies-clause-beliefs g c =
    let s = set_of c.args.live.now.seen.worldview in
    let old = c.args.live.now.network.cells in
    let new = c.state_sides.new.self.cells in
    rw c.forget.ensures (forgotten_known s old.contents new.contents c.args.live.now.seen.known c.args.cell
    (grown_sides s old new c.args.first c.args.cell c.args.infos.now c.in_ok-state_sides.ensures.ok).others
    c.args.live.now.beliefs)

pub invariant_of-live-else-not-implies-clause-beliefs : goal.invariant_of-live-else-not-implies-clause-beliefs
invariant_of-live-else-not-implies-clause-beliefs g c =
    let s = set_of c.args.live.now.seen.worldview in
    let old = c.args.live.now.network.cells in
    let new = c.state_sides.new.self.cells in
    rw c.forget.ensures (forgotten_known s old.contents new.contents c.args.live.now.seen.known c.args.cell
    (grown_sides s old new c.args.first c.args.cell c.args.infos.now c.in_ok-state_sides.ensures.ok).others
    c.args.live.now.beliefs)
