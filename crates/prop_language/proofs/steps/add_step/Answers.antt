use Rattle.std.proofs.Common.{inl, inr}
use Rattle.prop_language.specs.Tokens.{tokens}
use Rattle.prop_language.proofs.StepLaws.{one_read, one_unnamed, one_out_of_range, one_misformed}
use Rattle.prop_language.proofs.steps.add_step.Goals as goal

pub returns-in_default : goal.returns-in_default
returns-in_default c = record {
  ok = tt;
  err = one_misformed (tokens c.args.bytes.now) c.in-Err.refusal c.in_default.not-NotAName c.in_default.not-NotANumber
      c.in-Err.ensures.err;
}

pub returns-else-is_err-clause-ok : goal.returns-else-is_err-clause-ok
returns-else-is_err-clause-ok c = λ parts says.
    rw (c.push.ensures.items, c.is_err.ensures.negation, c.if-is_err.false)
    (one_read parts _ _ c.in-Ok.step _ says c.in-Ok.ensures.ok)

pub returns-in-NotAName-clause-ok : goal.returns-in-NotAName-clause-ok
returns-in-NotAName-clause-ok c = λ parts says.
    elim c.in-Err.ensures.err [
      | inl memory ↦ cc
      | inr e ↦ rw c.in-NotAName.is (one_unnamed parts _ _ _ says (rw c.in-NotAName.is at e))
    ]

pub returns-in-NotANumber-clause-ok : goal.returns-in-NotANumber-clause-ok
returns-in-NotANumber-clause-ok c = λ parts says.
    elim c.in-Err.ensures.err [
      | inl memory ↦ cc
      | inr e ↦ rw (c.or-steps.ensures, c.in-NotANumber.is)
          (one_out_of_range parts _ _ _ says (rw c.in-NotANumber.is at e))
    ]
