use Rattle.std.proofs.Common.{◌≡◌, ◌<◌, ◌≤◌, ℕ, All, Contains}
use Rattle.std.specs.Prelude.{drop}
use Rattle.prop_scheduler.specs.Agendas.{all_alerted, numbers_below}
use Rattle.prop_scheduler.proofs.making.alert_between.Given as goal

abbrev pub invariant-loop-instance : goal.invariant-loop-instance
invariant-loop-instance l = record {
  room : l.agenda.room ≡ l.initial.agenda.room;
  watched : l.agenda.watched ≡ l.initial.agenda.watched;
  cells : l.agenda.cells ≡ l.initial.agenda.cells;
  from : l.first ≤ l.instance;
  to : l.instance ≤ l.end;
  line : l.agenda.line ≡ all_alerted l.initial.agenda.line (drop l.first (numbers_below l.instance));
  before : (i : ℕ) → Contains l.initial.agenda.line i → Contains l.agenda.line i;
  alerted : (i : ℕ) → l.first ≤ i → i < l.instance → Contains l.agenda.line i;
  below : (n : ℕ) → l.end ≤ n → All (λ i. i < n) l.initial.agenda.line → All (λ i. i < n) l.agenda.line;
}
