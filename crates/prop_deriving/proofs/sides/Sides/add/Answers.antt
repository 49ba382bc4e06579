use Rattle.std.proofs.Common.{◌≡◌, ◌∙◌, Some, arith, get_or, slice_get, subst, sym}
use Rattle.std.proofs.lemmas.Option.{slice_get-get_or}
use Rattle.prop_premises.specs.declared.choice.Choice.{Choice}
use Rattle.prop_plans.specs.Held.{attached_of}
use Rattle.prop_deriving.specs.Sidings.{AreSidings, Sidings}
use Rattle.prop_deriving.proofs.SidingLemmas.{sidings_more}
use Rattle.prop_deriving.proofs.sides.Sides.add.Goals as goal
use Rattle.prop_deriving.proofs.sides.Sides.add.Goals.{in-Some+in_ok-push, in_default}

pub loop-number-preserved : goal.loop-number-preserved
loop-number-preserved c = λ h.
    let n = attached_of c.args.cells.now in
    let choices = c.args.choices.now in
    let P : Sidings → Type 0 = AreSidings n choices in
    let before = c.loop-number.invariant h in
    elim c.match-sided_at.branch [
      | in-Some+in_ok-push w ↦
          let number = c.loop-number.number in
          let choice : Choice = get_or choices number (record { first = 0; sides = 0 }) in
          let at : slice_get choices number ≡ Some choice =
          slice_get-get_or choices number (record { first = 0; sides = 0 }) (omega arith) in
          subst P (sym (w.self-is ∙ w.in_ok-push.ensures))
          (sidings_more n choices c.loop-number.self w.in-Some.sided before (w.in-Some.ensures choices at))
      | in_default w ↦ subst P (sym w.self-is) before
    ]
