-- What makes up a value: parts, each of which is a statement or a call of an instance. In a list of
-- parts each rests only on those behind it, that is, later in the list.
use Rattle.std.specs.Prelude.{◌==◌, ◌||◌, ◌+◌, ℕ, Bool, false, if◌then◌else◌, IsTrue, List, []}
use Rattle.std.specs.Prelude.{◌∷◌, ⊤}
use Rattle.std.specs.List.{list_any}
use Rattle.prop_lattice.specs.declared.info.Info.{Info}
use Rattle.prop_lattice.specs.declared.info.Info.TheVariants.{Nothing}
use Rattle.prop_lattice.specs.Order.{merge_of}
use Rattle.prop_numbers.specs.Sets.{Members, set_of, union}
use Rattle.prop_origins.specs.declared.part.Origin.{Origin}
use Rattle.prop_origins.specs.declared.part.Origin.TheVariants.{Told, Called}

-- a part: which statement or call it is, its cell, its inputs with what is said of them, what it
-- says of its cell, and the premises on which it rests
pub record Part : Type 0 where
  pub origin : Origin
  pub cell : ℕ
  pub inputs : List ℕ
  pub args : List Info
  pub value : Info
  pub support : List ℕ

-- what parts say together of a cell
abbrev pub made : List Part → ℕ → Info
made [] cell = Nothing
made (p ∷ behind) cell =
    if p.cell == cell then merge_of (made behind cell) p.value else made behind cell

-- the premises on which the parts at a cell rest
abbrev pub rests_on : List Part → ℕ → Members
rests_on [] cell q = false
rests_on (p ∷ behind) cell q =
    if p.cell == cell then union (rests_on behind cell) (set_of p.support) q
    else rests_on behind cell q

-- 1 for a call, and 0 for a statement
abbrev pub call_of : Origin → ℕ
call_of (Told n) = 0
call_of (Called n) = 1

-- how many of the parts are calls
abbrev pub calls_in : List Part → ℕ
calls_in [] = 0
calls_in (p ∷ behind) = calls_in behind + call_of p.origin

-- ---- which parts are read

-- the part has the cell among its inputs
abbrev pub reads : Part → ℕ → Bool
reads p cell = list_any (λ input. input == cell) p.inputs

-- each part is at a cell that is wanted, or that a part before it reads
abbrev pub AreWanted : (ℕ → Bool) → List Part → Type 0
AreWanted wanted [] = ⊤
AreWanted wanted (p ∷ behind) =
    IsTrue (wanted p.cell) × AreWanted (λ cell. wanted cell || reads p cell) behind
