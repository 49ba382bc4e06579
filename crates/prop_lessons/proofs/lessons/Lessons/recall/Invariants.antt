use Rattle.std.proofs.Common.{All, List}
use Rattle.prop_premises.specs.Origins.{believed_in, choices_of}
use Rattle.prop_procedures.specs.Stored.{Stored}
use Rattle.prop_plans.specs.Held.{attached_of}
use Rattle.prop_lessons.specs.Lessons.{AreTaught, Stands}
use Rattle.prop_lessons.proofs.lessons.Lessons.recall.Given as goal

abbrev pub invariant-loop-nogood : goal.invariant-loop-nogood
invariant-loop-nogood l = (library : List Stored) → AreTaught library l.self
    → All (Stands library (attached_of l.cells) (choices_of l.premises) (believed_in l.premises)) l.recalled.items
