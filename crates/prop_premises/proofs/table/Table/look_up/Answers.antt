use Rattle.prop_premises.specs.inner.Named.{number_of}
use Rattle.prop_premises.proofs.EntryLemmas.{found_is_user}
use Rattle.prop_premises.proofs.table.Table.look_up.Goals as goal

pub returns-clause-user : goal.returns-clause-user
returns-clause-user c = rw (← c.self.view_is)
    (found_is_user _ c.args.name.now (number_of c.look_up.result) c.look_up.ensures.number)
