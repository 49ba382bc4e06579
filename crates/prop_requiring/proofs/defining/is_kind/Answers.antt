use Rattle.std.proofs.Common.{◌∙◌, Some, ap, sym}
use Rattle.prop_requiring.proofs.defining.is_kind.Goals as goal

pub returns-in-Some : goal.returns-in-Some
returns-in-Some c = λ t. sym c.in-Some.ensures.kind ∙ ap (λ k. Some k) (c.is_same_kind.ensures t)
