-- How a run ends: quiet, where no instance waits; in a clash, where a cell is believed to hold a
-- contradiction; or with its budget of calls spent.
use Rattle.std.specs.Prelude.{ℕ, List}
use Rattle.prop_scheduler.specs.declared.outcome.Run.{Run}
use Rattle.prop_scheduler.specs.declared.outcome.Run.TheVariants.{Quiet, Clash, Spent}

-- where the run ended in a clash, P holds of the premises that are enough for it
abbrev pub IfClash : Run → (List ℕ → Type 0) → Type 0
IfClash (Clash support) P = P support
IfClash Quiet P = Unit {0}
IfClash Spent P = Unit {0}
