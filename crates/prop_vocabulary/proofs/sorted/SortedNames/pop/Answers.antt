use Rattle.std.proofs.Common.{◌∙◌}
use Rattle.prop_vocabulary.proofs.Places.{sorted_popped}
use Rattle.prop_vocabulary.proofs.sorted.SortedNames.pop.Goals as goal

pub invariant_of-self : goal.invariant_of-self
invariant_of-self c = sorted_popped c.self.inside.numbers c.forget.new.numbers c.self.inside.texts.items
    c.pop.new.self.items c.in-Some.name c.as_str.result.now c.len.result c.self.invariant c.in-Some.ensures.items
    c.as_str.ensures.value (c.len.ensures ∙ c.pop.new.self.ok.0) c.forget.ensures.gone c.forget.ensures.kept
