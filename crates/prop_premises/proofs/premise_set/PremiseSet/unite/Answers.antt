use Rattle.std.proofs.Common.{◌∙◌, sym}
use Rattle.prop_numbers.proofs.WithinLemmas.{has_both}
use Rattle.prop_premises.proofs.premise_set.PremiseSet.unite.Goals as goal

pub returns-else-not-is_subset-clause-ok : goal.returns-else-not-is_subset-clause-ok
returns-else-not-is_subset-clause-ok c =
    has_both c.args.self.now c.args.other.now (sym c.is_subset.ensures ∙ c.if-not-is_subset.false)
