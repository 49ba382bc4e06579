use Rattle.std.proofs.Common.{refl, sym, ◌∙◌, inr}
use Rattle.std.proofs.lemmas.Bool.{false≢true}
use Rattle.prop_language.specs.Tokens.{tokens}
use Rattle.prop_language.specs.Said.{value_of}
use Rattle.prop_language.proofs.Forming.{more_than_one}
use Rattle.prop_language.proofs.forms.only_value.Goals as goal

pub returns-clause-err : goal.returns-clause-err
returns-clause-err c =
    inr (
      refl,
      more_than_one (tokens c.args.bytes.now) (tokens c.in_ok-value.rest.now) (value_of c.in_ok-value.value)
          c.in_ok-value.ensures.ok (λ e. false≢true (sym c.if-is_end.false ∙ c.is_end.ensures.1 e)),
    )
