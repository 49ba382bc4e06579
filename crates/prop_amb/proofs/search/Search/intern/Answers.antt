use Rattle.std.proofs.Common.{◌≡◌, ◌∙◌, ◌++◌, ◌∷◌, [], ap}
use Rattle.prop_numbers.specs.Sets.{set_of}
use Rattle.prop_premises.specs.Origins.{choices_of, believed_in}
use Rattle.prop_premises.proofs.ChoiceLemmas.{choices_of-with_name}
use Rattle.prop_premises.proofs.ChangeLemmas.{is_start-with_name}
use Rattle.prop_amb.specs.contracts.search.Search.{the_view}
use Rattle.prop_amb.proofs.KeepingLaws.{search_believing}
use Rattle.prop_amb.proofs.NamingLaws.{below_new, interned_new_is, interned_stand, believed_in-kept}
use Rattle.prop_amb.proofs.FromLaws.{none_below_zero}
use Rattle.prop_amb.proofs.search.Search.intern.Goals as goal
use Rattle.prop_amb.proofs.search.Search.intern.Goals.{Joined-self}

-- what was believed has smaller numbers
last : (c : Joined-self) → c.believe.new.self ≡ c.self.inside.worldview ++ c.in_ok-premise.premise ∷ []
last c = c.in-Ok.ensures.last
    (rw c.in_ok-premise.ensures.number (below_new (the_view c.self.inside) c.args.name.now c.self.invariant.0))

pub back-requires : goal.back-requires
back-requires c = rw (c.from.ensures, c.in_ok-premise.ensures.ok)
    (is_start-with_name c.self.inside.premises c.args.name.now c.in_ok-premise.premise c.in_ok-premise.ensures.number)

pub invariant_of-self-in-Ok : goal.invariant_of-self-in-Ok
invariant_of-self-in-Ok c =
    let known = c.in_ok-premise.ensures in (
      rw (last c) (interned_stand (the_view c.self.inside) c.args.name.now c.add.new.self c.in_ok-premise.premise
          c.self.invariant.0 (rw (← c.self.view_is) at c.requires.new) (rw (← c.self.view_is) at c.requires.room)
          known.ok known.number),
      none_below_zero c.self.inside.store (set_of c.believe.new.self),
      tt,
    )

pub returns-in-Ok-clause-ok : goal.returns-in-Ok-clause-ok
returns-in-Ok-clause-ok c =
    let known = c.in_ok-premise.ensures in
    rw (last c)
    (interned_new_is (the_view c.self.inside) c.args.self.now c.args.name.now c.add.new.self c.in_ok-premise.premise
    c.self.view_is known.ok known.number)

pub returns-in-Ok-clause-search : goal.returns-in-Ok-clause-search
returns-in-Ok-clause-search c problem h =
    let now = c.in_ok-premise.ensures.ok in
    search_believing problem (the_view c.self.inside) c.add.new.self c.believe.new.self
    (ap choices_of now ∙ choices_of-with_name c.self.inside.premises c.args.name.now)
    (λ p b. ap (λ os. believed_in os p) now ∙ believed_in-kept c.self.inside.premises c.args.name.now p b)
    (rw (← c.self.view_is) at h)
