use Rattle.std.proofs.Common.{◌∙◌, refl, arith}
use Rattle.prop_amb.specs.Going.Passes.{none}
use Rattle.prop_amb.proofs.DecidingLaws.{passes_on}
use Rattle.prop_amb.proofs.settling.pass.Goals as goal

pub loop-moves-init : goal.loop-moves-init
loop-moves-init c = record {
  premises = refl;
  listed = refl;
  search = λ problem learned. learned;
  few = omega arith;
  moves = none;
}

pub loop-moves-preserved : goal.loop-moves-preserved
loop-moves-preserved c =
    let before = c.loop-moves.invariant in
    let after = c.in_ok-go_on.ensures in
    record {
      premises = after.premises ∙ before.premises;
      listed = after.listed ∙ before.listed;
      search = λ problem learned. after.search problem (before.search problem learned);
      few = omega (arith, c.loop-moves-test.true);
      moves = passes_on before.moves (after.moves c.if-not-branch.false);
    }
