use Rattle.std.proofs.Common.{◌++◌, codes}
use Rattle.prop_procedures.specs.Kept.{stored_of}
use Rattle.prop_workbench.specs.inner.Effects.{name_of}
use Rattle.prop_terms.specs.Terms.{term_of}
use Rattle.prop_seeking.specs.inner.Seekers.{sought_of}
use Rattle.prop_requiring.proofs.DefineLemmas.{requires_put}
use Rattle.prop_requiring.proofs.requirer.Requirer.require.Goals as goal

pub returns-in-Ok-term_in-clause-requires_it : goal.returns-in-Ok-term_in-clause-requires_it
returns-in-Ok-term_in-clause-requires_it g c =
    let old = c.args.self.now.blamer.seeker in
    let library = stored_of g.R.Rule.value_of old.teller.session.live.network.library in
    requires_put library (sought_of old) (codes "require" ++ c.args.behind.now) c.in-Ok.said.text.now
    (name_of c.in-Ok.said.premise) (term_of c.in-Ok-term_in.term) c.put.result
    (sought_of c.put.new.self.blamer.seeker) c.in-Ok.ensures.ok c.in-Ok-term_in.ensures.ok c.put.ensures.puts
