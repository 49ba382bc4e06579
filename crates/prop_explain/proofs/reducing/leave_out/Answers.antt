use Rattle.std.proofs.Common.{◌≡◌, ap}
use Rattle.prop_numbers.specs.Sets.{set_of, without}
use Rattle.prop_explain.proofs.reducing.leave_out.Goals as goal

pub returns-in-Enough-clause-called : goal.returns-in-Enough-clause-called
returns-in-Enough-clause-called g c =
    let less_is : set_of c.in_ok-less.less ≡ without (set_of c.args.trial.now.support) c.args.premise =
    λ i p. c.in_ok-less.ensures p i in
    rw less_is at c.in_ok-tried.ensures.called

pub returns-in-TooFew-clause-too_few : goal.returns-in-TooFew-clause-too_few
returns-in-TooFew-clause-too_few g c few =
    let less_is : set_of c.in_ok-less.less ≡ without (set_of c.args.trial.now.support) c.args.premise =
    λ i p. c.in_ok-less.ensures p i in (
      ap (λ (t : _). t.support) c.in_ok-tried.ensures.others,
      rw less_is at c.in_ok-tried.ensures.too_few few,
    )

pub returns-in-TooFew-clause-called : goal.returns-in-TooFew-clause-called
returns-in-TooFew-clause-called g c =
    let less_is : set_of c.in_ok-less.less ≡ without (set_of c.args.trial.now.support) c.args.premise =
    λ i p. c.in_ok-less.ensures p i in
    rw less_is at c.in_ok-tried.ensures.called

pub returns-in-Spent-clause-called : goal.returns-in-Spent-clause-called
returns-in-Spent-clause-called g c =
    let less_is : set_of c.in_ok-less.less ≡ without (set_of c.args.trial.now.support) c.args.premise =
    λ i p. c.in_ok-less.ensures p i in
    rw less_is at c.in_ok-tried.ensures.called
