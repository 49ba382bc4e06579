use Rattle.std.proofs.Common.{rules, ◌≡◌}
use Rattle.prop_vocabulary.specs.Names.{number_in}
use Rattle.prop_vocabulary.proofs.Lookups.{found_within}
use Rattle.prop_vocabulary.proofs.sorted.SortedNames.find.Goals as goal

pub returns-clause-within : goal.returns-clause-within
returns-clause-within c =
    let found : c.copied.result ≡ number_in c.args.self.now c.args.name.now = search rules in
    found_within c.args.self.now c.args.name.now c.copied.result found
