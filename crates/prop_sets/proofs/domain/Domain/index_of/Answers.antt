use Rattle.std.proofs.Common.{sym}
use Rattle.prop_sets.proofs.NameLemmas.{no_text}
use Rattle.prop_sets.proofs.domain.Domain.index_of.Goals as goal

pub returns-in-Err : goal.returns-in-Err
returns-in-Err c = rw (← c.self.view_is)
    (sym (no_text c.self.inside.names.keys c.args.name.now c.in-Err.ensures.cases.0))
