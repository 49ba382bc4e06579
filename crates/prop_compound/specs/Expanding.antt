-- Why a use is refused when it is expanded: each reason by itself, and which of them comes first.
use Rattle.std.specs.Prelude.{ℕ, ◌-◌, List, [], ◌∷◌, Bool, false, not, ◌||◌, nat_lt, Option, length}
use Rattle.std.specs.Prelude.{is_none, slice_get}
use Rattle.std.specs.List.{list_any}
use Rattle.std.specs.Option.{option_map_or, option_and_then}
use Rattle.prop_refusals.specs.Refusals.{most, when, first_of}
use Rattle.prop_refusals.specs.declared.refusal.Limit.TheVariants.{Cells, Instances}
use Rattle.prop_refusals.specs.declared.refusal.Refusal.{Refusal}
use Rattle.prop_refusals.specs.declared.refusal.Refusal.TheVariants.{NoSuchProcedure, WrongCount}
use Rattle.prop_refusals.specs.declared.refusal.Refusal.TheVariants.{WrongKind, WrongParameter}
use Rattle.prop_refusals.specs.declared.refusal.Refusal.TheVariants.{LimitReached}
use Rattle.prop_procedures.specs.declared.shape.Kinded.{Kinded}
use Rattle.prop_procedures.specs.declared.shape.Param.{Param}
use Rattle.prop_procedures.specs.Stored.{Stored}
use Rattle.prop_procedures.specs.Rules.{sides_of}
use Rattle.prop_vocabulary.specs.Vocabulary.{Vocabulary}
use Rattle.prop_compound.specs.Definitions.{Definitions, used_named, is_miscounted}
use Rattle.prop_procedures.specs.Fitting.{kinds_fit}
use Rattle.prop_procedures.specs.Rules.{fitting_param}
use Rattle.prop_compound.specs.Expansion.{Placed, Expansion, expanded}

-- the kinds of the instance's cells do not fit its procedure
abbrev pub is_kind_wrong : List Stored → List Kinded → Placed (Option Param) → Bool
is_kind_wrong library kinds x =
    option_map_or (λ p. not (kinds_fit p kinds (option_and_then sides_of x.given) x.cells))
    (slice_get library x.procedure) false

-- the instance's procedure does not take the parameter that the instance is given, or lacks one
abbrev pub is_param_wrong : List Stored → Placed (Option Param) → Bool
is_param_wrong library x = option_map_or (λ p. is_none (fitting_param p.need x.given))
    (slice_get library x.procedure) false

-- the parameter of some instance is wrong, or some definition is given a parameter and takes none
abbrev pub are_params_wrong : List Stored → Expansion (Option Param) → Bool
are_params_wrong library e = e.spare || list_any (is_param_wrong library) e.placed

-- so many fresh cells, or so many instances, are more than there may be
abbrev pub size_refusal : ℕ → ℕ → Option Refusal
size_refusal fresh instances =
    first_of (
    when (LimitReached Cells) (nat_lt (most Cells) fresh)
    ∷ when (LimitReached Instances) (nat_lt (most Instances) instances)
    ∷ []
    )

-- the kinds of some instance's cells do not fit its procedure, or some parameter is wrong
abbrev pub fit_refusal : List Stored → Expansion (Option Param) → Option Refusal
fit_refusal library e =
    first_of (
    when WrongKind (list_any (is_kind_wrong library e.kinds) e.placed)
    ∷ when WrongParameter (are_params_wrong library e)
    ∷ []
    )

-- why a use of the name is refused, on cells of these kinds and with this parameter or none: the
-- first reason that there is
abbrev pub expand_refusal : List Stored → Vocabulary → Definitions → List ℕ → List Kinded
    → Option Param → Option Refusal
expand_refusal library words definitions name kinds given =
    let e = expanded library words definitions name kinds given in
    first_of (
    when NoSuchProcedure (is_none (used_named library definitions name))
    ∷ when WrongCount (is_miscounted library definitions name (length kinds))
    ∷ size_refusal (length e.kinds - length kinds) (length e.placed)
    ∷ fit_refusal library e
    ∷ []
    )
