use Rattle.prop_meaning.proofs.powers.+power.Given as goal

abbrev pub decreases-power : goal.decreases-power
decreases-power g l = l.n
