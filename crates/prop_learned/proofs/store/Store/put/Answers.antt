use Rattle.std.proofs.Common.{◌≡◌, ◌∙◌, ◌∷◌, [], List, Option, ap, sym, subst, arith, length, Some}
use Rattle.prop_refuting.specs.Nogoods.{Nogood}
use Rattle.prop_learned.specs.Stores.{IsKeptIn, IsKeptAt}
use Rattle.prop_learned.specs.declared.slot.Slot.{Slot}
use Rattle.prop_learned.specs.inner.Slots.{held_in}
use Rattle.prop_learned.proofs.SlotLemmas.{filled, filled_ok, filled_from, filled_numbers, more, more_ok, at_front}
use Rattle.prop_learned.proofs.SlotLemmas.{kept_by_number}
use Rattle.prop_learned.proofs.store.Store.put.Goals as goal

pub returns-in-Some-clause-ok : goal.returns-in-Some-clause-ok
returns-in-Some-clause-ok c =
    let slot : Slot = record { nogood = Some c.args.nogood; watched = c.args.watched; stays = c.args.stays } in
    let e = filled c.self.inside.slots.items c.in-Some.number slot c.args.self.now
    (c.self.view_is ∙ c.in-Some.ensures.same) in
    subst (λ (xs : List (Option Nogood)). IsKeptAt xs c.in-Some.number c.args.nogood) (sym e)
    (filled_ok c.args.self.now c.in-Some.number c.args.nogood c.in-Some.ensures.free)

pub returns-in-Some-clause-from : goal.returns-in-Some-clause-from
returns-in-Some-clause-from c = λ g h.
    let slot : Slot = record { nogood = Some c.args.nogood; watched = c.args.watched; stays = c.args.stays } in
    let e = filled c.self.inside.slots.items c.in-Some.number slot c.args.self.now
    (c.self.view_is ∙ c.in-Some.ensures.same) in
    filled_from c.args.self.now c.in-Some.number c.args.nogood g
    (subst (λ (xs : List (Option Nogood)). IsKeptIn xs g) e h)

pub returns-in-Some-clause-numbers : goal.returns-in-Some-clause-numbers
returns-in-Some-clause-numbers c = λ k g h.
    let slot : Slot = record { nogood = Some c.args.nogood; watched = c.args.watched; stays = c.args.stays } in
    let e = filled c.self.inside.slots.items c.in-Some.number slot c.args.self.now
    (c.self.view_is ∙ c.in-Some.ensures.same) in
    subst (λ (xs : List (Option Nogood)). IsKeptAt xs k g) (sym e)
    (filled_numbers c.args.self.now c.in-Some.number c.args.nogood c.in-Some.ensures.free k g h)

pub returns-in-Some-clause-kept : goal.returns-in-Some-clause-kept
returns-in-Some-clause-kept c = kept_by_number c.args.self.now _ (returns-in-Some-clause-numbers c)

pub returns-clause-ok : goal.returns-clause-ok
returns-clause-ok c =
    let slot : Slot = record { nogood = Some c.args.nogood; watched = c.args.watched; stays = c.args.stays } in
    let slots = c.self.inside.slots.items in
    let was : held_in slots ≡ c.args.self.now = c.self.view_is ∙ c.in_default.ensures.same in
    let e = ap held_in c.in_ok-push.ensures.items ∙ more slots slot c.args.self.now was in
    let number : c.len-number.result ≡ length slots = omega (arith, c.self.inside.slots.ok) in
    subst (λ (xs : List (Option Nogood)). IsKeptAt xs c.len-number.result c.args.nogood) (sym e)
    (more_ok slots c.args.self.now was (Some c.args.nogood) c.len-number.result number)

pub returns-clause-numbers : goal.returns-clause-numbers
returns-clause-numbers c = λ k g h.
    let slot : Slot = record { nogood = Some c.args.nogood; watched = c.args.watched; stays = c.args.stays } in
    let slots = c.self.inside.slots.items in
    let was : held_in slots ≡ c.args.self.now = c.self.view_is ∙ c.in_default.ensures.same in
    let e = ap held_in c.in_ok-push.ensures.items ∙ more slots slot c.args.self.now was in
    subst (λ (xs : List (Option Nogood)). IsKeptAt xs k g) (sym e)
    (at_front c.args.self.now (Some c.args.nogood ∷ []) k (Some g) h)

pub returns-clause-kept : goal.returns-clause-kept
returns-clause-kept c = kept_by_number c.args.self.now _ (returns-clause-numbers c)
