use Rattle.std.proofs.Common.{◌∙◌, ap, true}
use Rattle.prop_numbers.specs.Sets.{set_of}
use Rattle.prop_premises.specs.Origins.{believed_in, choices_of}
use Rattle.prop_premises.proofs.ChoiceLemmas.{choices_of-with_belief_at}
use Rattle.prop_premises.proofs.NumberingLaws.{length-with_belief_at, numbered_belief}
use Rattle.prop_amb.specs.contracts.search.Search.{the_view}
use Rattle.prop_amb.proofs.SearchLaws.{or_true_left}
use Rattle.prop_amb.proofs.KeepingLaws.{search_believing}
use Rattle.prop_amb.proofs.BelievingLaws.{brought_believes, stand_believing}
use Rattle.prop_amb.proofs.FromLaws.{none_below_zero}
use Rattle.prop_amb.proofs.search.Search.bring.Goals as goal

pub invariant_of-self-2 : goal.invariant_of-self-2
invariant_of-self-2 c =
    let same = ap choices_of c.bring.ensures.only
    ∙ choices_of-with_belief_at c.self.inside.premises c.args.premise true in (
      stand_believing (the_view c.self.inside) c.bring.new.self c.believe.new.self c.self.invariant.0
          (rw c.bring.ensures.only (numbered_belief c.self.inside.premises c.args.premise true
          c.self.invariant.0.numbered))
          (rw (c.bring.ensures.only, length-with_belief_at c.self.inside.premises c.args.premise true)
          c.self.invariant.0.few)
          same
          (brought_believes (the_view c.self.inside) c.bring.new.self c.believe.new.self c.args.premise
          c.self.invariant.0 same c.bring.ensures.beliefs c.in_ok-believe.ensures.has),
      none_below_zero c.self.inside.store (set_of c.believe.new.self),
      tt,
    )

pub returns-clause-search : goal.returns-clause-search
returns-clause-search c problem h =
    let same = ap choices_of c.bring.ensures.only
    ∙ choices_of-with_belief_at c.self.inside.premises c.args.premise true in
    search_believing problem (the_view c.self.inside) c.bring.new.self c.believe.new.self same
    (λ p b. c.bring.ensures.beliefs p ∙ or_true_left (believed_in c.self.inside.premises p) _ b)
    (rw (← c.self.view_is) at h)
