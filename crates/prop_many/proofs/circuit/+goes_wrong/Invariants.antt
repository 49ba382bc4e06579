use Rattle.prop_many.proofs.circuit.+goes_wrong.Given as goal

abbrev pub decreases-goes_wrong : goal.decreases-goes_wrong
decreases-goes_wrong l = l.steps
