use Rattle.prop_vocabulary.proofs.Lookups.{pushed}
use Rattle.prop_vocabulary.proofs.names.push_hashed.Goals as goal

pub returns-clause-ok : goal.returns-clause-ok
returns-clause-ok c = pushed c.args.names.now.keys c.insert.new.self.keys c.args.name.now c.in_ok-owned.owned
    c.in_ok-owned.ensures.ok c.requires c.in_ok-insert.ensures.keys
