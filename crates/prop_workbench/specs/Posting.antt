-- Postings: what a session takes otherwise than as lines. A posting has fresh cells, instances
-- between them and given cells, and statements of either.
use Rattle.std.specs.Prelude.{◌≡◌, ◌<◌, ◌≤◌, ◌+◌, ◌++◌, ◌∷◌, [], ◌&&◌, ◌⊎◌, ℕ, List, All, IsTrue}
use Rattle.std.specs.Prelude.{Bool, false, Option, Some, None, Result, Ok, Err, ⊤, length, map}
use Rattle.std.specs.Prelude.{take}
use Rattle.std.specs.Prelude.{nat_le, is_none}
use Rattle.std.specs.Option.{option_map, option_map_or}
use Rattle.prop_refusals.specs.Refusals.{first_of, most, when}
use Rattle.prop_refusals.specs.declared.refusal.Limit.TheVariants.{Cells, Premises, Statements}
use Rattle.prop_refusals.specs.declared.refusal.Refusal.{Refusal}
use Rattle.prop_refusals.specs.declared.refusal.Refusal.TheVariants.{IsAChoice, LimitReached}
use Rattle.prop_refusals.specs.declared.refusal.Refusal.TheVariants.{Memory}
use Rattle.prop_premises.specs.Origins.{Origin, is_choice, premise_number, with_name}
use Rattle.prop_procedures.specs.declared.flat.Flat.{Flat}
use Rattle.prop_procedures.specs.declared.shape.Kinded.{Kinded}
use Rattle.prop_procedures.specs.Fitting.{kind_at}
use Rattle.prop_procedures.specs.Flats.{cell_placed}
use Rattle.prop_procedures.specs.Stored.{Stored}
use Rattle.prop_cells.specs.declared.instance.Statement.{Statement}
use Rattle.prop_cells.specs.Refusing.{may_be_stated}
use Rattle.prop_compound.specs.Kinds.{IsSized}
use Rattle.prop_scheduler.specs.Making.{MayBeMade, made_of, room_refusal}
use Rattle.prop_workbench.specs.declared.posting.Posting.{Posting}
use Rattle.prop_workbench.specs.declared.posting.Stated.{Stated}
use Rattle.prop_workbench.specs.Effects.{number_given}
use Rattle.prop_workbench.specs.Machine.{State}

-- ---- what is made

-- The statement for what is stated at a place. The given cells have the first places, and the fresh
-- ones, numbered from `next` on, those behind.
abbrev pub statement_at : Option ℕ → List ℕ → ℕ → Stated → Statement
statement_at premise cells next x =
    record { premise = premise; cell = cell_placed cells next x.place; info = x.info }

-- the state with the fresh cells of a posting and its instances
abbrev pub with_placed : List Stored → State → List ℕ → Flat → State
with_placed library s cells flat = record s {
  kinds = s.kinds ++ flat.fresh.items;
  instances = s.instances ++ map (made_of library flat.params.items cells (length s.kinds))
      flat.instances.items;
}

-- the state with each of these stated under no premise
abbrev pub with_fixed : State → List ℕ → ℕ → List Stated → State
with_fixed s cells next fixed =
    record s { statements = s.statements ++ map (statement_at None cells next) fixed }

-- the state with one statement more: under the premise with the name, as `tell` makes it, or under
-- none
abbrev pub with_told : State → List ℕ → ℕ → Stated → Option (List ℕ) → State
with_told s cells next told premise = record s {
  premises = option_map_or (with_name s.premises) premise s.premises;
  statements = s.statements
      ++ statement_at (option_map (number_given s.premises) premise) cells next told ∷ [];
}

-- the state with all that the posting has
abbrev pub posted : List Stored → State → List ℕ → Posting → Option (List ℕ) → State
posted library s cells p premise =
    let next = length s.kinds in
    let placed = with_placed library s cells p.flat in
    with_told (with_fixed placed cells next p.fixed.items) cells next p.told premise

-- ---- why it is refused

-- a name is given, and a choice has it
abbrev pub is_choice_given : List Origin → Option (List ℕ) → Bool
is_choice_given premises name = option_map_or (is_choice premises) name false

-- a name is given, and no premise has it
abbrev pub is_new_given : List Origin → Option (List ℕ) → Bool
is_new_given premises name = option_map_or (λ n. is_none (premise_number premises n)) name false

-- Why the posting is refused, where it is: the first of these reasons. A choice has the name; or
-- there is no room for a new premise, for the statements, for the cells, or for the instances.
abbrev pub posting_refusal : State → Posting → Option (List ℕ) → Option Refusal
posting_refusal s p premise =
    first_of (when IsAChoice (is_choice_given s.premises premise)
    ∷ when (LimitReached Premises) (is_new_given s.premises premise && nat_le (most Premises)
    (length s.premises))
    ∷ when (LimitReached Statements) (nat_le (most Statements) (length s.statements
    + length p.fixed.items))
    ∷ room_refusal (length s.kinds + length p.flat.fresh.items)
    (length s.instances + length p.flat.instances.items) ∷ [])

-- How a posting ends. It was done in whole. Or it is refused for its first reason, and the state
-- stays. Or memory was refused: then the state stays too, or it has all cells and instances and the
-- first few of the statements under no premise.
abbrev pub IsPosted : List Stored → State → List ℕ → Posting → Option (List ℕ) → Result ⊤ Refusal
    → State → Type 0
IsPosted library s cells p premise (Ok done) t = (posting_refusal s p premise ≡ None)
    × (t ≡ posted library s cells p premise)
IsPosted library s cells p premise (Err e) t = ((posting_refusal s p premise ≡ Some e) × (t ≡ s))
    ⊎ ((e ≡ Memory) × ((t ≡ s) ⊎ ((n : ℕ) × (t ≡ with_fixed (with_placed library s cells p.flat)
    cells (length s.kinds) (take n p.fixed.items)))))

-- ---- what may be asked

-- there is a cell at the place, and what is stated is of its kind and no contradiction
pub record MayBeAt (kinds fresh : List Kinded) (cells : List ℕ) (x : Stated) : Type 0 where
  pub place : x.place < length cells + length fresh
  pub may :
      let k = kind_at (kinds ++ fresh) (cell_placed cells (length kinds) x.place) in
      IsTrue (may_be_stated k.kind k.size x.info)

-- The given cells are there, and the fresh ones are of kinds whose domains are there. Where there
-- is room for the cells, each instance fits its cells. Each statement fits its cell.
pub record MayBePosted (library : List Stored) (s : State) (cells : List ℕ) (p : Posting) : Type 0
  where
    pub there : All (λ cell. cell < length s.kinds) cells
    pub sized : All (IsSized s.words) p.flat.fresh.items
    pub made : length s.kinds + length p.flat.fresh.items ≤ most Cells
        → All (MayBeMade library (s.kinds ++ p.flat.fresh.items) p.flat.params.items cells
        (length s.kinds)) p.flat.instances.items
    pub fixed : All (MayBeAt s.kinds p.flat.fresh.items cells) p.fixed.items
    pub told : MayBeAt s.kinds p.flat.fresh.items cells p.told
