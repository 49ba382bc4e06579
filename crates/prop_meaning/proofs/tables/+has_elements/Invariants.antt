use Rattle.prop_meaning.proofs.tables.+has_elements.Given as goal

abbrev pub decreases-has_elements : goal.decreases-has_elements
decreases-has_elements g l = l.count
