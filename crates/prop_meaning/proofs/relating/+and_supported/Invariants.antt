use Rattle.prop_meaning.proofs.relating.+and_supported.Given as goal

abbrev pub decreases-and_supported : goal.decreases-and_supported
decreases-and_supported g l = l.count
