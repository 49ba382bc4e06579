-- What tries leave of the network in which they are made.
use Rattle.std.specs.Prelude.{◌≡◌, ℕ, List, length}
use Rattle.prop_numbers.specs.Sets.{Members}
use Rattle.prop_procedures.specs.Stored.{Stored}
use Rattle.prop_cells.specs.Data.{Data}
use Rattle.prop_scheduler.specs.Agendas.{Waiting}
use Rattle.prop_scheduler.specs.Live.{IsReady}
use Rattle.prop_scheduler.specs.Shifts.{AreShifted}
use Rattle.prop_scheduler.specs.Turns.{Turns}

-- nothing but what the cells hold has changed, and the network may be woken
pub record StaysReady (library : List Stored) (old new : Data) (after : Waiting) : Type 0 where
  pub rest : new ≡ record old { contents = new.contents }
  pub ready : IsReady library new after

-- The worldview changes from t to s, so that the readers and the writers of the cells that shift
-- wait, and then so many calls are made in s.
abbrev pub Called : {O : Type 0} → (O → ℕ → ℕ → O → Type 0) → List Stored → Members → Members
    → Data → List ℕ → O → ℕ → Data → List ℕ → O → Type 0
Called picks library t s d line order calls new after next = (waiting : List ℕ)
    × AreShifted t s d (length d.kinds) line waiting
    × Turns picks library s d waiting order calls new after next
