use Rattle.std.proofs.Common.{◌∙◌, ◌∷◌, [], ap}
use Rattle.prop_facts.specs.declared.fact.Literal.{Literal}
use Rattle.prop_solve.proofs.question.not_less.Goals as goal

pub returns : goal.returns
returns c = (
  c.in-Some.span,
  c.in-Some.ensures,
  c.in_ok-only.ensures ∙ ap (λ (x : Literal). x ∷ []) c.no_less.ensures,
)
