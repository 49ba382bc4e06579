-- A parameter that is given and fits is the one that the instance has.
use Rattle.std.proofs.Common.{◌≡◌, ◌∙◌, ℕ, ◌<◌, Bool, true, false, cond, List, Option, Some, None, is_none, length}
use Rattle.std.proofs.Common.{slice_get, get_or, refl, sym, ap, inl, inr}
use Rattle.std.specs.Prelude.{Result, Ok, Err, IfOk}
use Rattle.std.specs.Option.{option_and_then}
use Rattle.std.proofs.lemmas.Bool.{cases_lt}
use Rattle.std.proofs.lemmas.Option.{slice_get_past, slice_get-get_or}
use Rattle.prop_procedures.specs.declared.shape.Param.{Param}
use Rattle.prop_procedures.specs.declared.shape.Param.TheVariants as params
use Rattle.prop_procedures.specs.declared.shape.Need.{Need}
use Rattle.prop_procedures.specs.declared.shape.Need.TheVariants as needs
use Rattle.prop_procedures.specs.Rules.{is_scale}
use Rattle.prop_procedures.specs.Rules.{fitting_param}
use Rattle.prop_cells.specs.Instances.{param_in}

given_fits : (need : Need) (given : Param) → is_none (fitting_param need (Some given)) ≡ false
    → fitting_param need (Some given) ≡ Some given
given_fits needs.Nothing given e = cc
given_fits needs.Scale params.Plain e = cc
given_fits needs.Scale (params.Scale k) e = in_range (is_scale k) e
  where
    in_range : (b : Bool) → is_none (cond b (Some (params.Scale k)) None) ≡ false
        → cond b (Some (params.Scale k)) None ≡ Some (params.Scale k)
    in_range true e = refl
    in_range false e = cc
given_fits needs.Scale (params.Rows r) e = cc
given_fits needs.Rows params.Plain e = cc
given_fits needs.Rows (params.Scale k) e = cc
given_fits needs.Rows (params.Rows r) e = refl

pub param_within : (need : Need) (known : List Param) (n : ℕ) → is_none (param_in need known (Some n)) ≡ false
    → n < length known
param_within need known n e =
    elim (cases_lt n (length known)) [
      | inl h ↦ h
      | inr past ↦ absurd (let none : true ≡ false = sym
          (ap (λ (o : Option Param). is_none (option_and_then (λ param. fitting_param need (Some param)) o))
          (slice_get_past known n past)) ∙ e in cc)
    ]

param_copied : (need : Need) (known : List Param) (n : ℕ) (param : Param)
    → is_none (param_in need known (Some n)) ≡ false → slice_get known n ≡ Some param
    → param_in need known (Some n) ≡ Some param
param_copied need known n param e at =
    let same : param_in need known (Some n) ≡ fitting_param need (Some param) =
    ap (option_and_then (λ param. fitting_param need (Some param))) at in
    same ∙ given_fits need param (sym (ap is_none same) ∙ e)

pub copied_in : {E : Type 0} (need : Need) (known : List Param) (given : Option ℕ) (n : ℕ) (param : Param)
    (r : Result Param E) → given ≡ Some n → is_none (param_in need known given) ≡ false → param ≡ get_or known n param
    → IfOk r (λ q. q ≡ param) → IfOk r (λ q. param_in need known given ≡ Some q)
copied_in need known given n param (Ok q) is e at h =
    let one : is_none (param_in need known (Some n)) ≡ false = rw is at e in
    let found : slice_get known n ≡ Some param = slice_get-get_or known n param (param_within need known n one)
    ∙ ap Some (sym at) in
    rw (is, h) (param_copied need known n param one found)
copied_in need known given n param (Err x) is e at h = tt
