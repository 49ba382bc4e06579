use Rattle.std.proofs.Common.{[], ◌∷◌, ap, ◌∙◌}
use Rattle.prop_refusals.specs.declared.refusal.Refusal.TheVariants.{WrongParameter}
use Rattle.prop_refusals.specs.Refusals.{when, first_of}
use Rattle.prop_procedures.specs.Kept.{stored_of}
use Rattle.prop_compound.proofs.Firsts.{kind_stops, spare_stops, given_decides}
use Rattle.prop_compound.proofs.fitting.judge.Goals as goal
use Rattle.prop_compound.proofs.fitting.judge.Goals.{then-walk-via-then-walk}
use Rattle.prop_compound.proofs.fitting.judge.Goals.{then-walk-via-else-walk+then-has_param_wrong}

pub returns-then-has_kind_wrong-clause-err : goal.returns-then-has_kind_wrong-clause-err
returns-then-has_kind_wrong-clause-err g c =
    kind_stops (stored_of g.R.Rule.value_of c.args.library.now) c.args.walk.now c.deref-2.result.now
    c.deref.result.now c.deref-3.result.now c.deref-2.ensures.value c.deref.ensures.value c.deref-3.ensures.value
    c.has_kind_wrong.result c.has_kind_wrong.ensures c.if-has_kind_wrong.true

pub returns-then-walk-clause-err : goal.returns-then-walk-clause-err
returns-then-walk-clause-err g c =
    let library = stored_of g.R.Rule.value_of c.args.library.now in
    let walk = c.args.walk.now in
    elim c.then-walk.branch [
      | then-walk-via-then-walk w ↦
          spare_stops library walk c.deref-2.result.now c.deref.result.now c.deref-3.result.now
          c.deref-2.ensures.value c.deref.ensures.value c.deref-3.ensures.value c.has_kind_wrong.result
          c.has_kind_wrong.ensures c.if-has_kind_wrong.false w.if-walk.true
      | then-walk-via-else-walk+then-has_param_wrong w ↦
          given_decides library walk c.deref-2.result.now c.deref.result.now c.deref-3.result.now
          c.deref-2.ensures.value c.deref.ensures.value c.deref-3.ensures.value c.has_kind_wrong.result
          c.has_kind_wrong.ensures w.deref-else-walk.result.now w.deref-else-walk-2.result.now w.has_param_wrong.result
          c.if-has_kind_wrong.false w.if-walk.false w.deref-else-walk.ensures.value
          w.deref-else-walk-2.ensures.value w.has_param_wrong.ensures ∙
          ap (λ b. first_of (when WrongParameter b ∷ [])) w.if-has_param_wrong.true
    ]

pub returns-clause-fits : goal.returns-clause-fits
returns-clause-fits g c =
    given_decides (stored_of g.R.Rule.value_of c.args.library.now) c.args.walk.now c.deref-2.result.now
    c.deref.result.now c.deref-3.result.now c.deref-2.ensures.value c.deref.ensures.value c.deref-3.ensures.value
    c.has_kind_wrong.result c.has_kind_wrong.ensures c.deref-else-walk.result.now c.deref-else-walk-2.result.now
    c.has_param_wrong.result c.if-has_kind_wrong.false c.if-walk.false c.deref-else-walk.ensures.value
    c.deref-else-walk-2.ensures.value c.has_param_wrong.ensures ∙
    ap (λ b. first_of (when WrongParameter b ∷ [])) c.if-has_param_wrong.false
