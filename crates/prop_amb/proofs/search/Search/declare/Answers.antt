use Rattle.std.proofs.Common.{◌≡◌, ◌∙◌, ap, arith, length}
use Rattle.prop_premises.specs.Origins.{choices_of}
use Rattle.prop_premises.proofs.ChangeLemmas.{length-with_choice}
use Rattle.prop_amb.specs.contracts.search.Search.{the_view}
use Rattle.prop_amb.proofs.LastChoiceLaws.{stand_declared, search_stays}
use Rattle.prop_amb.proofs.search.Search.declare.Goals as goal

pub invariant_of-self-2 : goal.invariant_of-self-2
invariant_of-self-2 c = (
  rw (
    c.in_ok-push.ensures.items,
    c.reserve.ensures.items,
    c.in_ok-push-2.ensures.items,
    c.reserve-2.ensures.items,
    c.none.ensures,
    c.in_ok-choice.ensures.ok,
  )
      (stand_declared (the_view c.self.inside) c.args.name.now c.args.sides c.self.invariant.0 c.requires.sides.0
      c.requires.sides.1 (rw (← c.self.view_is) at c.requires.room)),
  c.self.invariant.1,
  tt,
)

pub returns-clause-last : goal.returns-clause-last
returns-clause-last c =
    let known = c.in_ok-choice.ensures in record {
      earlier = choices_of c.self.inside.premises;
      last = known.choices;
      end = omega (
        arith,
        known.choice.0,
        known.choice.1,
        ap length known.ok,
        length-with_choice c.self.inside.premises c.args.name.now c.args.sides,
      );
    }

pub returns-clause-search : goal.returns-clause-search
returns-clause-search c problem fresh h =
    let known = c.in_ok-choice.ensures in
    let is : c.in_ok-choice.choice ≡ record { first = length c.self.inside.premises; sides = c.args.sides } =
    ap (λ n. record { first = n; sides = c.in_ok-choice.choice.sides }) known.choice.0
    ∙ ap (λ n. record { first = length c.self.inside.premises; sides = n }) known.choice.1 in
    rw (
      c.in_ok-push.ensures.items,
      c.reserve.ensures.items,
      c.in_ok-push-2.ensures.items,
      c.reserve-2.ensures.items,
      c.none.ensures,
      known.ok,
    )
    (search_stays problem (the_view c.self.inside) c.args.name.now c.args.sides c.in_ok-choice.choice c.self.invariant.0
    c.requires.sides.0 c.requires.sides.1 is fresh (rw (← c.self.view_is) at h))
