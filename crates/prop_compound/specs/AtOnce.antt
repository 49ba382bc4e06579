-- Why a use is refused at once, before any memory is taken, so that want of memory never hides it.
use Rattle.std.specs.Prelude.{ℕ, ◌-◌, List, [], ◌∷◌, Option, length, is_none}
use Rattle.prop_refusals.specs.declared.refusal.Refusal.{Refusal}
use Rattle.prop_refusals.specs.declared.refusal.Refusal.TheVariants.{NoSuchProcedure, WrongCount}
use Rattle.prop_refusals.specs.Refusals.{when, first_of}
use Rattle.prop_procedures.specs.declared.shape.Kinded.{Kinded}
use Rattle.prop_procedures.specs.declared.shape.Param.{Param}
use Rattle.prop_procedures.specs.Stored.{Stored}
use Rattle.prop_vocabulary.specs.Vocabulary.{Vocabulary}
use Rattle.prop_compound.specs.Definitions.{Definitions, used_named, is_miscounted}
use Rattle.prop_compound.specs.Expansion.{expanded}
use Rattle.prop_compound.specs.Expanding.{size_refusal}

-- the name stands for nothing, or for something that wants another number of cells, or there would
-- be too many fresh cells or instances
abbrev pub refused_at_once : List Stored → Vocabulary → Definitions → List ℕ → List Kinded
    → Option Param → Option Refusal
refused_at_once library words definitions name kinds given =
    let e = expanded library words definitions name kinds given in
    first_of (
    when NoSuchProcedure (is_none (used_named library definitions name))
    ∷ when WrongCount (is_miscounted library definitions name (length kinds))
    ∷ size_refusal (length e.kinds - length kinds) (length e.placed)
    ∷ []
    )
