use Rattle.prop_learned.proofs.SlotLemmas.{emptied_numbers, emptied_others}
use Rattle.prop_learned.proofs.store.Store.let_go.Goals as goal

pub returns-in_ok-push-clause-numbers : goal.returns-in_ok-push-clause-numbers
returns-in_ok-push-clause-numbers c =
    emptied_numbers c.self.inside.slots.items c.args.number c.empty.result c.args.self.now c.self.view_is
    c.empty.ensures

pub returns-in_ok-push-clause-others : goal.returns-in_ok-push-clause-others
returns-in_ok-push-clause-others c =
    emptied_others c.self.inside.slots.items c.args.number c.empty.result c.args.self.now c.self.view_is
