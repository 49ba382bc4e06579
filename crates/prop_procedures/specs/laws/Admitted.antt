-- Which parameters an instance of a procedure can have.
use Rattle.std.specs.Prelude.{◌≡◌, ℤ, pos, cond, Option, Some, None}
use Rattle.std.proofs.Common.{refl, rules}
use Rattle.std.proofs.lemmas.Option.{cond_some}
use Rattle.prop_procedures.specs.declared.shape.Need.{Need}
use Rattle.prop_procedures.specs.declared.shape.Need.TheVariants as needs
use Rattle.prop_procedures.specs.declared.shape.Param.{Param}
use Rattle.prop_procedures.specs.declared.shape.Param.TheVariants as params
use Rattle.prop_procedures.specs.Rules.{is_scale, fitting_param}
use Rattle.prop_procedures.specs.inner.Places.{Admits}

in_range : (k : ℤ) (param : Param) → cond (is_scale k) (Some (params.Scale k)) None ≡ Some param
    → Admits needs.Scale param
in_range k param e = let h = cond_some (is_scale k) (params.Scale k) param e in rw (← h.1) h.0

in_range_of : (given param : Param) → fitting_param needs.Scale (Some given) ≡ Some param
    → Admits needs.Scale param
in_range_of params.Plain param e = cc
in_range_of (params.Rows r) param e = cc
in_range_of (params.Scale k) param e = in_range k param e

-- what is given or none, and fits, is what the procedure may be given
pub admitted : (need : Need) (given : Option Param) (param : Param)
    → fitting_param need given ≡ Some param → Admits need param
admitted needs.Nothing None params.Plain e = tt
admitted needs.Nothing None (params.Scale k) e = cc
admitted needs.Nothing None (params.Rows r) e = cc
admitted needs.Nothing (Some given) param e = cc
admitted needs.Scale None param e =
    let same : params.Scale (pos 1) ≡ param = cc in rw (← same) refl
admitted needs.Scale (Some given) param e = in_range_of given param e
admitted needs.Rows None param e = cc
admitted needs.Rows (Some (params.Rows r)) param e =
    let same : params.Rows r ≡ param = cc in rw (← same) tt
admitted needs.Rows (Some params.Plain) param e = cc
admitted needs.Rows (Some (params.Scale k)) param e = cc

pub may_be_given : (need : Need) (param : Param)
    → (given : Option Param) × (fitting_param need given ≡ Some param) → Admits need param
may_be_given need param g = admitted need g.0 param g.1

-- and the other way round
pub given_as : (need : Need) (param : Param) → Admits need param
    → (given : Option Param) × (fitting_param need given ≡ Some param)
given_as needs.Nothing params.Plain a = (None, refl)
given_as needs.Scale (params.Scale k) a = (Some (params.Scale k), rw a refl)
given_as needs.Rows (params.Rows r) a = (Some (params.Rows r), refl)
given_as need param a = search rules
