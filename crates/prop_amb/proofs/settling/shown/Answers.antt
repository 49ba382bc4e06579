use Rattle.std.proofs.Common.{◌≡◌, sym, true, false}
use Rattle.prop_numbers.specs.Sets.{set_of, is_within}
use Rattle.prop_amb.proofs.RefutingLaws.{here_of, next_of, step_here, blamed_here, nogood_here, step_next}
use Rattle.prop_amb.proofs.settling.shown.Goals as goal

pub resolve-requires : goal.resolve-requires
resolve-requires c =
    let within : is_within (set_of c.args.search.now.worldview) c.args.nogood ≡ true =
    sym (rw c.worldview.ensures.same at c.if-believes.ensures) in
    let here = here_of c.args.search.now c.args.nogood c.requires within in
    record { believed = here.believed }

pub returns-then-believes-clause-step : goal.returns-then-believes-clause-step
returns-then-believes-clause-step c =
    let within : is_within (set_of c.args.search.now.worldview) c.args.nogood ≡ true =
    sym (rw c.worldview.ensures.same at c.if-believes.ensures) in
    let here = here_of c.args.search.now c.args.nogood c.requires within in
    step_here c.args.search.now c.args.nogood c.in_ok-shown.shown c.worldview.ensures.stand here
    c.in_ok-shown.ensures.may c.in_ok-shown.ensures.below c.in_ok-shown.ensures.culprits

pub returns-then-believes-clause-blamed : goal.returns-then-believes-clause-blamed
returns-then-believes-clause-blamed c =
    let within : is_within (set_of c.args.search.now.worldview) c.args.nogood ≡ true =
    sym (rw c.worldview.ensures.same at c.if-believes.ensures) in
    let here = here_of c.args.search.now c.args.nogood c.requires within in
    blamed_here c.args.search.now c.args.nogood c.in_ok-shown.shown c.worldview.ensures.stand here
    c.in_ok-shown.ensures.culprits

pub returns-then-believes-clause-resolved : goal.returns-then-believes-clause-resolved
returns-then-believes-clause-resolved c problem h =
    let within : is_within (set_of c.args.search.now.worldview) c.args.nogood ≡ true =
    sym (rw c.worldview.ensures.same at c.if-believes.ensures) in
    let here = here_of c.args.search.now c.args.nogood c.requires within in
    let its = nogood_here problem c.args.search.now c.args.nogood h here in
    c.in_ok-shown.ensures.resolved problem h its.0 its.1

pub returns-clause-step : goal.returns-clause-step
returns-clause-step c =
    let lacks : is_within (set_of c.args.search.now.worldview) c.args.nogood ≡ false =
    sym (rw c.worldview.ensures.same at c.if-believes.ensures) in
    rw c.level.ensures (step_next c.args.search.now c.args.nogood (next_of c.args.search.now c.args.nogood
    c.requires lacks))

pub returns-clause-resolved : goal.returns-clause-resolved
returns-clause-resolved c problem h =
    let lacks : is_within (set_of c.args.search.now.worldview) c.args.nogood ≡ false =
    sym (rw c.worldview.ensures.same at c.if-believes.ensures) in
    rw c.level.ensures ((next_of c.args.search.now c.args.nogood c.requires lacks).reason problem h)
