use Rattle.std.proofs.Common.{map, string_bytes}
use Rattle.prop_vocabulary.proofs.Lookups.{absent_behind}
use Rattle.prop_vocabulary.proofs.names.Names.push.Goals as goal

pub push-requires : goal.push-requires
push-requires c = absent_behind (map string_bytes c.self.inside.hashed.keys) c.self.inside.sorted c.args.name.now
    (rw c.self.view_is c.requires)
