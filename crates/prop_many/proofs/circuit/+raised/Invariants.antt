use Rattle.prop_many.proofs.circuit.+raised.Given as goal

abbrev pub decreases-raised : goal.decreases-raised
decreases-raised l = l.many
