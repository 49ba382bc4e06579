use Rattle.prop_many.proofs.circuit.+lowered.Given as goal

abbrev pub decreases-lowered : goal.decreases-lowered
decreases-lowered l = l.many
