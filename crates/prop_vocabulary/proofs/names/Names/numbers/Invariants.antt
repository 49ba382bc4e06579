use Rattle.std.proofs.Common.{◌≡◌, take, map}
use Rattle.prop_vocabulary.specs.Names.{numbers_in}
use Rattle.prop_vocabulary.proofs.names.Names.numbers.Given as goal

abbrev pub invariant-loop-name : goal.invariant-loop-name
invariant-loop-name l = l.numbers.items ≡ numbers_in l.self (map (λ x. x.now) (take l.name-index l.names))
