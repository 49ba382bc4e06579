use Rattle.std.proofs.Common.{◌∙◌, Err, List, ℕ, ap, inl, inr, subst}
use Rattle.prop_language.specs.Reading.{IsReading}
use Rattle.prop_requiring.specs.Asking.{cell_line}
use Rattle.prop_requiring.proofs.defining.name_in.Goals as goal

pub returns : goal.returns
returns c = elim c.in-Err.ensures.read [
  | inl m ↦ inl m
  | inr is ↦ inr (subst (λ (bytes : List ℕ). IsReading bytes (Err c.in-Err.refusal))
      (c.deref.ensures.value ∙ c.in-Ok.ensures ∙ ap (cell_line c.args.before.now) c.as_slice.ensures) is)
]
