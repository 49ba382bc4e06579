-- How a posting is made: whether a statement fits the cell at its place, and which limits it meets.
use Rattle.std.specs.Prelude.{◌<◌, ◌+◌, ◌-◌, ◌^◌, ◌&&◌, ◌∷◌, [], ℕ, List, IsTrue, Option, length}
use Rattle.std.specs.Prelude.{nat_le}
use Rattle.prop_refusals.specs.Refusals.{first_of, most, when}
use Rattle.prop_refusals.specs.declared.refusal.Limit.TheVariants.{Premises, Statements}
use Rattle.prop_refusals.specs.declared.refusal.Refusal.{Refusal}
use Rattle.prop_refusals.specs.declared.refusal.Refusal.TheVariants.{LimitReached}
use Rattle.prop_procedures.specs.declared.shape.Kinded.{Kinded}
use Rattle.prop_procedures.specs.Fitting.{kind_at}
use Rattle.prop_procedures.specs.Flats.{cell_placed}
use Rattle.prop_cells.specs.Refusing.{may_be_stated}
use Rattle.prop_workbench.specs.declared.posting.Stated.{Stated}
use Rattle.prop_workbench.specs.Machine.{State}
use Rattle.prop_workbench.specs.Posting.{is_new_given}

-- there is a cell at the place, whose number fits in 64 bits, and this may be stated of it
pub record FitsAt (kinds : List Kinded) (cells : List ℕ) (next : ℕ) (x : Stated) : Type 0 where
  pub small : next + (x.place - length cells) < 2 ^ 64
  pub there : cell_placed cells next x.place < length kinds
  pub may :
      let k = kind_at kinds (cell_placed cells next x.place) in
      IsTrue (may_be_stated k.kind k.size x.info)

-- no room is left for a premise with the name, where that is new, or for one statement more than
-- `count`
abbrev pub posting_limit : State → Option (List ℕ) → ℕ → Option Refusal
posting_limit s premise count =
    first_of (when (LimitReached Premises) (is_new_given s.premises premise && nat_le
    (most Premises) (length s.premises))
    ∷ when (LimitReached Statements) (nat_le (most Statements) (length s.statements + count)) ∷ [])
