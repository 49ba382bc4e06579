use Rattle.std.proofs.Common.{◌≡◌, ◌∙◌, refl, ◌<◌, Contains, arith, inl, inr}
use Rattle.std.proofs.lemmas.Bool.Decides.{eqb_tells}
use Rattle.prop_scheduler.proofs.Line.{alerted_kept, alerted_here, alerted_all, between_none, between_more}
use Rattle.prop_scheduler.proofs.making.alert_between.Goals as goal

pub loop-instance-preserved : goal.loop-instance-preserved
loop-instance-preserved c =
    let mid = c.loop-instance.agenda.line in
    let new = c.alert.new.self.line in
    let j = c.loop-instance.instance in
    let a = c.alert.ensures.alerted in
    let h = c.loop-instance.invariant in
    let here = c.loop-instance-test.true in
    record {
      room = c.alert.ensures.room ∙ h.room;
      watched = c.alert.ensures.watched ∙ h.watched;
      cells = c.alert.ensures.cells ∙ h.cells;
      from = omega arith;
      to = omega (arith, here);
      line = let from = h.from in between_more c.args.agenda.now.line mid new c.args.first j from h.line a;
      before = λ i waits. alerted_kept mid new j i a (h.before i waits);
      alerted = λ i from below. elim (eqb_tells i j) as (λ _. Contains new i) [
        | inl same ↦ rw same.1 (alerted_here mid new j a)
        | inr other ↦ alerted_kept mid new j i a (h.alerted i from (let ne = other.1 in omega (arith, below, ne)))
      ];
      below = λ n end all. alerted_all (λ i. i < n) mid new j a (omega (arith, here, end)) (h.below n end all);
    }

pub loop-instance-init : goal.loop-instance-init
loop-instance-init c =
    record {
      room = refl;
      watched = refl;
      cells = refl;
      from = omega arith;
      to = c.requires.order;
      line = between_none c.args.agenda.now.line c.args.first;
      before = λ i waits. waits;
      alerted = λ i from below. absurd (omega (arith, from, below));
      below = λ n end all. all;
    }

pub returns-clause-line : goal.returns-clause-line
returns-clause-line c =
    let to = c.loop-instance.invariant.to in
    let past = c.loop-instance-test.false in
    let all : c.loop-instance.instance ≡ c.args.end = omega (arith, to, past) in
    rw all at c.loop-instance.invariant.line
