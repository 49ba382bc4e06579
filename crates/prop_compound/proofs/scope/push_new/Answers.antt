use Rattle.std.proofs.Common.{is_some, inl, refl, sym, ap, ◌∙◌}
use Rattle.prop_compound.proofs.Scoping.{found_any}
use Rattle.prop_compound.proofs.scope.push_new.Goals as goal

pub returns-then-is_some-clause-why : goal.returns-then-is_some-clause-why
returns-then-is_some-clause-why c =
    inl (
      refl,
      sym (found_any c.args.scope.now c.args.name.now)
          ∙ sym (c.if-is_some.ensures ∙ ap is_some c.find.ensures.number),
    )

pub returns-clause-new : goal.returns-clause-new
returns-clause-new c =
    sym (found_any c.args.scope.now c.args.name.now) ∙ sym (c.if-is_some.ensures ∙ ap is_some c.find.ensures.number)
