-- What the use of a compound stands for, made in a network: fresh cells, parameters and instances
-- (a `Flat`).
use Rattle.std.specs.Prelude.{◌≡◌, ◌<◌, ◌^◌, ℕ, ◌+◌, ◌-◌, List, [], ◌++◌, All, true, false, nat_lt}
use Rattle.std.specs.Prelude.{Option, Some, length, map, is_none, slice_get, unwrap_or}
use Rattle.std.specs.Option.{option_and_then, option_or}
use Rattle.prop_refusals.specs.Refusals.{most, when}
use Rattle.prop_refusals.specs.declared.refusal.Limit.TheVariants.{Cells, Instances}
use Rattle.prop_refusals.specs.declared.refusal.Refusal.{Refusal}
use Rattle.prop_refusals.specs.declared.refusal.Refusal.TheVariants.{LimitReached}
use Rattle.prop_procedures.specs.declared.flat.Placed.{Placed}
use Rattle.prop_procedures.specs.declared.flat.Flat.{Flat}
use Rattle.prop_procedures.specs.declared.shape.Kinded.{Kinded}
use Rattle.prop_procedures.specs.declared.shape.Param.{Param}
use Rattle.prop_procedures.specs.declared.shape.Param.TheVariants.{Plain}
use Rattle.prop_procedures.specs.Flats.{cells_of, param_at, cell_placed}
use Rattle.prop_procedures.specs.Stored.{Stored}
use Rattle.prop_procedures.specs.Rules.{sides_of}
use Rattle.prop_procedures.specs.Fitting.{kinds_fit}
use Rattle.prop_procedures.specs.Rules.{fitting_param}
use Rattle.prop_cells.specs.Data.{Data}
use Rattle.prop_cells.specs.Instances.{Instance}

-- the refusal where so many cells, or so many instances, are more than there can be
abbrev pub room_refusal : ℕ → ℕ → Option Refusal
room_refusal cells instances =
    option_or (when (LimitReached Cells) (nat_lt (most Cells) cells))
    (when (LimitReached Instances) (nat_lt (most Instances) instances))

-- the instance's cells by their numbers in the network: the given ones, and fresh ones from `next`
-- on
abbrev pub cells_made : List ℕ → ℕ → Placed → List ℕ
cells_made cells next x = map (cell_placed cells next) (cells_of x)

-- The instance may be made between cells of these kinds, with one of these parameters: its
-- procedure is in the library, and the cells and the parameter fit it.
pub record MayBeMade (library : List Stored) (kinds : List Kinded) (params : List Param)
    (cells : List ℕ) (next : ℕ) (x : Placed) : Type 0 where
  pub procedure : Stored
  pub at : slice_get library x.procedure ≡ Some procedure
  pub count : length x.inputs.items ≡ length procedure.ins
  pub small : All (λ place. next + (place - length cells) < 2 ^ 64) (cells_of x)
  pub below : All (λ cell. cell < length kinds) (cells_made cells next x)
  pub right : kinds_fit procedure kinds (option_and_then sides_of (param_at params x.param))
      (cells_made cells next x) ≡ true
  pub takes : is_none (fitting_param procedure.need (param_at params x.param)) ≡ false

-- the instance as it is made in the network
abbrev pub made_of : List Stored → List Param → List ℕ → ℕ → Placed → Instance
made_of library params cells next x = record {
  procedure = x.procedure;
  param = unwrap_or (option_and_then (λ p. fitting_param p.need (param_at params x.param))
      (slice_get library x.procedure)) Plain;
  inputs = map (cell_placed cells next) x.inputs.items;
  output = cell_placed cells next x.output;
}

-- the data with fresh cells, of which nothing is known
abbrev pub with_fresh_cells : Data → List Kinded → Data
with_fresh_cells d fresh = record d {
  kinds = d.kinds ++ fresh;
  contents = d.contents ++ map (λ k. []) fresh;
}

-- the data with the fresh cells, the parameters and the instances that the use stands for
abbrev pub with_flat : List Stored → Data → List ℕ → Flat → Data
with_flat library d cells flat = record d {
  kinds = d.kinds ++ flat.fresh.items;
  contents = d.contents ++ map (λ k. []) flat.fresh.items;
  params = d.params ++ flat.params.items;
  instances = d.instances ++ map (made_of library flat.params.items cells (length d.kinds))
      flat.instances.items;
}

-- each instance of the use may be made, once the fresh cells are
abbrev pub MayMake : List Stored → Data → List ℕ → Flat → Type 0
MayMake library d cells flat =
    All (MayBeMade library (d.kinds ++ flat.fresh.items) flat.params.items cells (length d.kinds))
    flat.instances.items
