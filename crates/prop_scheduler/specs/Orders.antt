-- Which of the waiting instances each order picks. `picks old waiting place new` says that the
-- order, in state `old`, may pick the instance at `place` among so many that wait, and goes on in
-- state `new`.
use Rattle.std.specs.Prelude.{◌≡◌, ℕ, ◌+◌, ◌*◌, ◌/◌, ◌%◌, ◌^◌}
use Rattle.prop_scheduler.specs.declared.order.Fifo.{Fifo}
use Rattle.prop_scheduler.specs.declared.order.Lifo.{Lifo}
use Rattle.prop_scheduler.specs.declared.order.Mixed.{Mixed}

-- the one that has waited longest, which stands first
abbrev pub picks_first : Fifo → ℕ → ℕ → Fifo → Type 0
picks_first old waiting place new = place ≡ 0

-- the one that was alerted last, which stands last
abbrev pub picks_last : Lifo → ℕ → ℕ → Lifo → Type 0
picks_last old waiting place new = place + 1 ≡ waiting

-- the number that follows in the row of numbers of a mixed order
abbrev pub mixed_after : ℕ → ℕ
mixed_after n = (n * 6_364_136_223_846_793_005 + 1_442_695_040_888_963_407) % 2 ^ 64

-- the place among so many that a number picks, by its upper 31 bits
abbrev pub mixed_place : ℕ → ℕ → ℕ
mixed_place n waiting = n / 2 ^ 33 % waiting

-- the one that the next number of the row picks, which may be any of them
abbrev pub picks_mixed : Mixed → ℕ → ℕ → Mixed → Type 0
picks_mixed old waiting place new = (new.number ≡ mixed_after old.number)
    × (place ≡ mixed_place new.number waiting)
