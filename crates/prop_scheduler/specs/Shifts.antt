-- Which instances wait once another set of premises is believed, and in which order. A cell shifts
-- where something else is believed of it then.
use Rattle.std.specs.Prelude.{◌≡◌, ◌≢◌, ◌+◌, ◌++◌, ℕ, List, drop, length}
use Rattle.prop_contents.specs.Contents.{beliefs}
use Rattle.prop_cells.specs.inner.Problems.{Premises}
use Rattle.prop_cells.specs.Instances.{Instance, readers_of, writers_of}
use Rattle.prop_cells.specs.Data.{Data}
use Rattle.prop_scheduler.specs.Agendas.{all_alerted, numbers_below}

-- The line once the first n cells were gone through, the lowest first. A cell is stirred where the
-- second premises believe something else of it, by what the cells hold then, than the first
-- premises by what they held before. The instances that such a cell wakes are alerted: those that
-- don't wait yet come last, in their order.
pub data Stirs (wakes : ℕ → List ℕ) (s t : Premises) (old new : Data) (line : List ℕ) : ℕ → List ℕ
    → Type 0 where
  none : Stirs wakes s t old new line 0 line
  as_before : (n : ℕ) (later : List ℕ) → Stirs wakes s t old new line n later
      → beliefs s old.contents n ≡ beliefs t new.contents n
      → Stirs wakes s t old new line (n + 1) later
  stirred : (n : ℕ) (later : List ℕ) → Stirs wakes s t old new line n later
      → beliefs s old.contents n ≢ beliefs t new.contents n
      → Stirs wakes s t old new line (n + 1) (all_alerted later (wakes n))

-- the instances that read a cell, and then those that write it
abbrev pub touching : List Instance → ℕ → List ℕ
touching instances cell = readers_of instances cell ++ writers_of instances cell

-- the line once the premises t are believed instead of s: each of the first n cells that shifts
-- wakes its readers and then its writers
abbrev pub AreShifted : Premises → Premises → Data → ℕ → List ℕ → List ℕ → Type 0
AreShifted s t d n old new = Stirs (touching d.instances) s t d d old n new

-- The same, but each cell that shifts wakes its readers alone. This is for premises t that have all
-- of s and more.
abbrev pub AreGrown : Premises → Premises → Data → ℕ → List ℕ → List ℕ → Type 0
AreGrown s t d n old new = Stirs (readers_of d.instances) s t d d old n new

-- the instances that are new in the second data wait behind those that waited, by number
abbrev pub AreMade : Data → Data → List ℕ → List ℕ → Type 0
AreMade old new line later =
    later ≡ all_alerted line (drop (length old.instances) (numbers_below (length new.instances)))
