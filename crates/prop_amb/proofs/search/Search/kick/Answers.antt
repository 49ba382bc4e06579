use Rattle.std.proofs.Common.{◌∙◌, ap, sym, subst, false, IsTrue}
use Rattle.prop_premises.specs.Origins.{is_user_at, choices_of}
use Rattle.prop_premises.proofs.ChoiceLemmas.{choices_of-with_belief_at}
use Rattle.prop_premises.proofs.NumberingLaws.{length-with_belief_at, numbered_belief}
use Rattle.prop_amb.specs.Search.{Stand, IsSearch}
use Rattle.prop_amb.specs.contracts.search.Search.{the_view}
use Rattle.prop_amb.proofs.KeepingLaws.{search_restarted}
use Rattle.prop_amb.proofs.BelievingLaws.{kicked_believes, stand_believing}
use Rattle.prop_amb.proofs.FromLaws.{none_below_kicked}
use Rattle.prop_amb.proofs.search.Search.kick.Goals as goal

pub invariant_of-self : goal.invariant_of-self
invariant_of-self c =
    let premises = ap (λ (s : Stand). s.premises) (c.self-2.view_is ∙ c.restart.ensures.only) in
    let user : IsTrue (is_user_at c.self-2.inside.premises c.args.premise) = rw premises c.requires in
    let same = ap choices_of c.kick.ensures.only
    ∙ choices_of-with_belief_at c.self-2.inside.premises c.args.premise false in (
      stand_believing (the_view c.self-2.inside) c.kick.new.self c.disbelieve.new.self c.self-2.invariant.0
          (rw c.kick.ensures.only (numbered_belief c.self-2.inside.premises c.args.premise false
          c.self-2.invariant.0.numbered))
          (rw (c.kick.ensures.only, length-with_belief_at c.self-2.inside.premises c.args.premise false)
          c.self-2.invariant.0.few)
          same
          (kicked_believes (the_view c.self-2.inside) c.kick.new.self c.disbelieve.new.self c.args.premise
          c.self-2.invariant.0 user same c.kick.ensures.beliefs c.disbelieve.ensures),
      none_below_kicked c.self-2.inside.store c.self-2.inside.worldview c.disbelieve.new.self c.self-2.inside.from
          c.args.premise c.disbelieve.ensures c.self-2.invariant.1,
      tt,
    )

pub returns-clause-search : goal.returns-clause-search
returns-clause-search c problem h =
    let is = c.self-2.view_is ∙ c.restart.ensures.only in
    let same = ap choices_of c.kick.ensures.only
    ∙ choices_of-with_belief_at c.self-2.inside.premises c.args.premise false
    ∙ ap (λ (s : Stand). choices_of s.premises) is in
    subst (λ (s : Stand). IsSearch problem (record s { premises = c.kick.new.self; worldview = c.disbelieve.new.self }))
    (sym is) (search_restarted problem _ c.kick.new.self c.disbelieve.new.self same h)
