use Rattle.std.proofs.Common.{◌∙◌, ap, length}
use Rattle.prop_premises.proofs.NumberLemmas.{numbered}
use Rattle.prop_premises.proofs.TableLemmas.{length-places}
use Rattle.prop_premises.proofs.table.Table.len.Goals as goal

pub returns-clause-len : goal.returns-clause-len
returns-clause-len c =
    rw (← c.self.view_is) (c.len.ensures ∙ c.self.inside.places.ok.0 ∙ ap length c.self.invariant.2
    ∙ length-places 0 c.self.inside.names.entries)

pub returns-clause-below : goal.returns-clause-below
returns-clause-below c = rw (← c.self.view_is) (numbered c.self.inside.names.entries c.self.invariant.1).below
