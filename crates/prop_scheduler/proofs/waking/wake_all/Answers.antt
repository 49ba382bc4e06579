use Rattle.std.proofs.Common.{◌<◌, ℕ, Contains, length, sym, arith, inl, inr}
use Rattle.std.proofs.lemmas.List.Elements.{All-contains}
use Rattle.prop_procedures.specs.Kept.{stored_of}
use Rattle.prop_contents.proofs.Lists.{All-from_contains}
use Rattle.prop_scheduler.proofs.UnderWay.{under_way_all}
use Rattle.prop_scheduler.proofs.WatchLaws.{watched_all}
use Rattle.prop_scheduler.proofs.waking.wake_all.Goals as goal

pub returns-clause-alive : goal.returns-clause-alive
returns-clause-alive g c =
    let d = c.args.live.now.network.cells in
    let n = length d.instances in
    let line = c.alert_first.new.self.line in
    let first = c.alert_first.ensures.alerted in
    let count = c.instances.ensures.count in
    let below : (j : ℕ) → Contains line j
    → j < n = λ j k. elim (first.only j k) as (λ _. j < n) [
      | inl was ↦ All-contains (λ i. i < n) c.args.live.now.agenda.line j c.requires.ready.line was
      | inr l ↦
          omega (arith, l, count)
    ] in
    λ s. record {
      under_way = rw c.watch_first.ensures.line
          (under_way_all (stored_of g.R.Rule.value_of c.args.live.now.network.library) s d line c.requires.ready.kept
          (All-from_contains (λ j. j < n) line below) (λ j l. first.alerted j (omega (arith, l, count))));
      watched = watched_all s d c.args.live.now.agenda.watched c.watch_first.new.self.watched c.cells.result
          c.cells.ensures.contents c.cells.ensures.count c.requires.ready.watched
          (rw c.alert_first.ensures.watched at c.watch_first.ensures.watched);
    }

pub returns-clause-line : goal.returns-clause-line
returns-clause-line g c = rw (c.watch_first.ensures.line, sym c.instances.ensures.count) c.alert_first.ensures.line
