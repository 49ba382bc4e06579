use Rattle.prop_meaning.proofs.tables.+has_numbers.Given as goal

abbrev pub decreases-has_numbers : goal.decreases-has_numbers
decreases-has_numbers l = l.count
