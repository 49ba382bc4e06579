use Rattle.std.proofs.Common.{◌++◌, ◌-◌, ◌<◌, ◌≤◌, All, arith, subst}
use Rattle.std.specs.List.{range_with_len}
use Rattle.prop_scheduler.specs.Agendas.{AllAlerted}
use Rattle.prop_scheduler.proofs.Steps.{all_after_alerts}
use Rattle.prop_origins.specs.inner.Lines.{Lined}
use Rattle.prop_origins.proofs.LineLaws.{alerted_before}
use Rattle.prop_origins.proofs.line.Line.alert.Goals as goal

pub invariant_of-self : goal.invariant_of-self
invariant_of-self c =
    let n = c.self.inside in
    let told : All (λ j. j < n.count) c.args.instances.now = rw (← c.self.view_is) at c.requires in
    let was : n.count ≤ n.agenda.room = c.self.invariant.room in
    let same = c.alert_all.ensures.room in
    record {
      within = c.self.invariant.within;
      below = all_after_alerts (λ j. j < n.count) c.args.instances.now n.agenda.line c.alert_all.new.self.line told
          c.self.invariant.below c.alert_all.ensures.alerted;
      room = omega (arith, was, same);
    }

pub returns-clause-alerted : goal.returns-clause-alerted
returns-clause-alerted c =
    let n = c.self.inside in
    let later = range_with_len n.fresh (n.count - n.fresh) in
    subst (λ (q : Lined). AllAlerted q.line (c.alert_all.new.self.line ++ later) c.args.instances.now) c.self.view_is
    (alerted_before n.agenda.line c.alert_all.new.self.line c.args.instances.now later c.alert_all.ensures.alerted)
