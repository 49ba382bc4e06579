-- Why a network refuses a cell, a statement or an instance: the first reason that there is.
use Rattle.std.specs.Prelude.{ℕ, ◌+◌, ◌^◌, ◌/◌, ◌==◌, nat_le, nat_lt, Bool, true, false, not, List}
use Rattle.std.specs.Prelude.{[], ◌∷◌, ◌++◌, Option, None, is_none, length, slice_get}
use Rattle.std.specs.Option.{option_map_or, option_or}
use Rattle.std.specs.List.{list_any}
use Rattle.prop_refusals.specs.Refusals.{most, when}
use Rattle.prop_lattice.specs.declared.info.Info.{Info}
use Rattle.prop_lattice.specs.declared.info.Info.TheVariants.{Nothing, Span, Set, Sym}
use Rattle.prop_lattice.specs.declared.info.Kind.{Kind}
use Rattle.prop_lattice.specs.declared.info.Kind.TheVariants as kinds
use Rattle.prop_refusals.specs.declared.refusal.Limit.TheVariants.{Cells, Instances, Statements}
use Rattle.prop_refusals.specs.declared.refusal.Refusal.{Refusal}
use Rattle.prop_refusals.specs.declared.refusal.Refusal.TheVariants.{NoSuchCell, WrongCount}
use Rattle.prop_refusals.specs.declared.refusal.Refusal.TheVariants.{WrongKind, WrongParameter}
use Rattle.prop_refusals.specs.declared.refusal.Refusal.TheVariants.{LimitReached}
use Rattle.prop_procedures.specs.Stored.{Stored}
use Rattle.prop_procedures.specs.Fitting.{kind_at, kinds_fit}
use Rattle.prop_cells.specs.Instances.{sides_given, param_in}
use Rattle.prop_cells.specs.Data.{Data}

-- why one more cell is refused
abbrev pub cell_refusal : Data → Option Refusal
cell_refusal d = when (LimitReached Cells) (nat_le (most Cells) (length d.kinds))

-- the information may be stated at a cell: it is of the cell's kind, whose domain has this size,
-- and no contradiction
abbrev pub may_be_stated : Kind → ℕ → Info → Bool
may_be_stated kind size Nothing = true
may_be_stated kinds.Span size (Span s) = true
may_be_stated (kinds.Set domain) size (Set s) = s.bits / 2 ^ size == 0
may_be_stated kinds.Symbol size (Sym s) = true
may_be_stated kind size a = false

-- why an information may not be stated at a cell
abbrev pub state_refusal : Data → ℕ → Info → Option Refusal
state_refusal d cell info =
    option_or (when NoSuchCell (nat_le (length d.kinds) cell))
    (option_or (when WrongKind (not
    (may_be_stated (kind_at d.kinds cell).kind (kind_at d.kinds cell).size info)))
    (when (LimitReached Statements) (nat_le (most Statements) (length d.statements))))

-- why so many statements more may not be made
abbrev pub sides_refusal : Data → ℕ → Option Refusal
sides_refusal d count = when (LimitReached Statements)
    (nat_lt (most Statements) (length d.statements + count))

-- why a procedure may not be attached to cells, with the parameter of a number or without one
abbrev pub refusal_at : Stored → Data → Option ℕ → List ℕ → ℕ → Option Refusal
refusal_at p d param ins out =
    option_or (when NoSuchCell (list_any (λ cell. nat_le (length d.kinds) cell) (ins ++ out ∷ [])))
    (option_or (when WrongCount (not (length ins == length p.ins)))
    (option_or (when WrongKind (not
    (kinds_fit p d.kinds (sides_given d.params param) (ins ++ out ∷ []))))
    (option_or (when WrongParameter (is_none (param_in p.need d.params param)))
    (when (LimitReached Instances) (nat_le (most Instances) (length d.instances))))))

-- the same, by the procedure's number
abbrev pub attach_refusal : List Stored → Data → ℕ → Option ℕ → List ℕ → ℕ → Option Refusal
attach_refusal library d n param ins out =
    option_map_or (λ p. refusal_at p d param ins out) (slice_get library n) None
