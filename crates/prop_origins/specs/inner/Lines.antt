-- Which instances are to be called while parts are looked for: those that wait, and then each one
-- that wasn't called yet, by number.
use Rattle.std.specs.Prelude.{◌<◌, ◌≤◌, ℕ, List, All}
use Rattle.prop_scheduler.specs.Agendas.{Waiting}

-- the instances that are still to be called, in order, of those below a number
pub record Lined : Type 0 where
  pub count : ℕ
  pub line : List ℕ

-- There are `count` instances, of which those below `fresh` were called in order. Each instance
-- that waits is one of the `count`, and there is room for all.
pub record IsLined (count fresh : ℕ) (waiting : Waiting) : Type 0 where
  pub within : fresh ≤ count
  pub below : All (λ j. j < count) waiting.line
  pub room : count ≤ waiting.room
