use Rattle.prop_vocabulary.proofs.Halving.{past_place, past_all}
use Rattle.prop_vocabulary.proofs.values.halves.Goals as goal
use Rattle.prop_vocabulary.proofs.values.halves.Goals.{else-word-i-eq46-via-then-word-i-eq46+else-word-i-eq46-2}
use Rattle.prop_vocabulary.proofs.values.halves.Goals.{else-word-i-eq46-via-else-word-i-eq46}

pub loop-i-preserved : goal.loop-i-preserved
loop-i-preserved c =
    past_place c.args.word.now c.loop-i.i c.loop-i.auto.i c.loop-i-test.true
    (elim c.else-word-i-eq46.branch [
      | else-word-i-eq46-via-then-word-i-eq46+else-word-i-eq46-2 w ↦ λ p q. w.if-word-i-eq46-2.false q
      | else-word-i-eq46-via-else-word-i-eq46 w ↦ λ p q. w.if-word-i-eq46.false p
    ])
    c.loop-i.invariant

pub returns : goal.returns
returns c = past_all c.args.word.now c.loop-i.i c.loop-i-test.false c.loop-i.invariant
