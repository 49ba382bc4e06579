use Rattle.prop_numbers.specs.Sets.{set_of}
use Rattle.prop_amb.proofs.FromLaws.{none_below_any}
use Rattle.prop_amb.proofs.search.Search.pass_over.Goals as goal

pub invariant_of-self : goal.invariant_of-self
invariant_of-self c =
    let none = rw (← c.self.view_is) at c.requires in
    (c.self.invariant.0, none_below_any c.self.inside.store (set_of c.self.inside.worldview) _ none, c.self.invariant.2)
