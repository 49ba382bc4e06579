use Rattle.std.proofs.Common.{◌∙◌}
use Rattle.prop_vocabulary.proofs.Places.{sorted_pushed}
use Rattle.prop_vocabulary.proofs.sorted.SortedNames.push.Goals as goal

pub invariant_of-self-in-Ok : goal.invariant_of-self-in-Ok
invariant_of-self-in-Ok c = sorted_pushed c.self.inside.numbers c.insert.new.self c.self.inside.texts.items
    c.push.new.self.items c.in_ok-text.text c.in_ok-key.key c.args.name.now c.len-number.result c.self.invariant
    (rw c.self.view_is c.requires) c.in_ok-text.ensures.ok c.in_ok-key.ensures.ok
    (c.len-number.ensures ∙ c.self.inside.texts.ok.0) c.in_ok-push.ensures.items c.in-Ok.ensures.updates
