use Rattle.std.proofs.Common.{◌≡◌, ◌≤◌, drop, map}
use Rattle.prop_language.specs.Said.{step_of}
use Rattle.prop_notes.specs.Notes.{locals_from, parts_from}
use Rattle.prop_notes.specs.inner.Notes.{AddsBefore}
use Rattle.prop_notes.proofs.notes.Notes.defined.Given as goal

abbrev pub invariant-loop-step : goal.invariant-loop-step
invariant-loop-step l = record {
  name : l.inner.name ≡ l.name;
  few : l.number ≤ l.step-index;
  locals : AddsBefore (locals_from l.self l.number (drop l.step-index (map step_of l.steps)))
      (locals_from l.self 0 (map step_of l.steps)) l.inner.locals;
  parts : AddsBefore (parts_from l.self l.number (drop l.step-index (map step_of l.steps)))
      (parts_from l.self 0 (map step_of l.steps)) l.inner.parts;
}
