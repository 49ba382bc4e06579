use Rattle.std.proofs.Common.{arith}
use Rattle.prop_vocabulary.proofs.Lookups.{shorter_behind}
use Rattle.std.specs.Prelude.{map, string_bytes}
use Rattle.prop_vocabulary.proofs.names.Names.pop.Goals as goal

pub returns-then-len-gt0 : goal.returns-then-len-gt0
returns-then-len-gt0 c = rw (c.pop.ensures, ← c.self.view_is)
    (shorter_behind (map string_bytes c.self.inside.hashed.keys) c.self.inside.sorted
    (omega (arith, c.len.ensures.len, c.if-len-gt0.true)))
