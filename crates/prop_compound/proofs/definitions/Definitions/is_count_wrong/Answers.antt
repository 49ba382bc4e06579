use Rattle.std.proofs.Common.{◌∙◌, ap, sym}
use Rattle.prop_procedures.specs.Kept.{stored_of}
use Rattle.prop_language.specs.Said.{step_of}
use Rattle.prop_compound.specs.inner.Defining.{used_by}
use Rattle.prop_compound.proofs.Resolved.{used_there, same_count}
use Rattle.prop_compound.proofs.definitions.Definitions.is_count_wrong.Goals as goal

pub is_miscounted-requires : goal.is_miscounted-requires
is_miscounted-requires g c =
    let library = stored_of g.R.Rule.value_of c.args.library.now in
    let definitions = c.args.self.now in
    used_there library definitions c.in-Use-Some.field-0-0.now c.in-Use-Some.used
    (same_count c.self.inside.names c.self.inside.definitions.items definitions c.self.view_is c.self.invariant)
    (sym (c.requires ∙ ap (λ s. used_by library definitions (step_of s)) c.in-Use-Some.is-0) ∙ c.in-Use-Some.is-1)
