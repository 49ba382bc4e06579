use Rattle.std.proofs.Common.{refl}
use Rattle.prop_tms.proofs.ValueLemmas.{entries_of-same, none_bare-set, values_of-set}
use Rattle.prop_tms.proofs.values.make_room.Goals as goal

pub returns-clause-values : goal.returns-clause-values
returns-clause-values g c = values_of-set c.args.values.now c.args.place _ c.index-values-place.result c.requires refl

pub returns-clause-same : goal.returns-clause-same
returns-clause-same g c =
    entries_of-same c.args.values.now c.args.place _ c.index-values-place.result c.requires refl c.reserve.ensures.items

pub returns-clause-bare : goal.returns-clause-bare
returns-clause-bare g c =
    none_bare-set c.args.values.now c.args.place _ c.index-values-place.result c.requires c.reserve.ensures.items

pub returns-clause-others : goal.returns-clause-others
returns-clause-others g c none k d l apart = returns-clause-bare g c none k d l
