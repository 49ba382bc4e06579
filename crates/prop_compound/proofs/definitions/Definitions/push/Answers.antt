use Rattle.std.proofs.Common.{◌∙◌, ap}
use Rattle.prop_vocabulary.specs.Names.{number_in}
use Rattle.prop_compound.specs.Definitions.{Definitions}
use Rattle.prop_compound.proofs.Resolved.{both_pushed, one_popped}
use Rattle.prop_compound.proofs.definitions.Definitions.push.Goals as goal

pub invariant_of-self-in-Ok-push : goal.invariant_of-self-in-Ok-push
invariant_of-self-in-Ok-push c =
    both_pushed c.self.inside.names c.push-2.new.self c.args.name.now c.self.inside.definitions.items
    c.push.new.self.items c.args.definition c.args.self.now c.self.view_is c.in-Ok-push.ensures.ok
    c.in-Ok.ensures.items c.self.invariant c.requires.kept

pub invariant_of-self-in-Err : goal.invariant_of-self-in-Err
invariant_of-self-in-Err c =
    let same = one_popped c.self.inside.definitions.items c.push.new.self.items c.pop.new.self.items c.args.definition
    c.push.new.self.len c.in-Ok.ensures.items c.push.new.self.ok.0 c.pop.ensures.rest in
    rw (same, c.in-Err.ensures.err) c.self.invariant

pub push-requires-2 : goal.push-requires-2
push-requires-2 c =
    ap (λ (d : Definitions). number_in d.names c.args.name.now) c.self.view_is ∙ c.requires.new
