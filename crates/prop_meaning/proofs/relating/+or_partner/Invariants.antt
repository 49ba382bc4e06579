use Rattle.prop_meaning.proofs.relating.+or_partner.Given as goal

abbrev pub decreases-or_partner : goal.decreases-or_partner
decreases-or_partner g l = l.count
