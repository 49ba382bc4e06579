use Rattle.std.proofs.Common.{◌∙◌, ap, sym, subst, Option, None, IfSome}
use Rattle.std.specs.Prelude.{codes}
use Rattle.prop_procedures.specs.Kept.{stored_of}
use Rattle.prop_engine.specs.Answers.{answer_of}
use Rattle.prop_notes.specs.Notes.{is_done}
use Rattle.prop_seeking.specs.Asking.{begins}
use Rattle.prop_seeking.specs.inner.Seekers.{sought_of}
use Rattle.prop_seeking.proofs.LimitLemmas.{calm_line}
use Rattle.prop_seeking.specs.inner.Explored.{ground_in}
use Rattle.prop_blaming.specs.inner.Blamers.{IsReady}
use Rattle.prop_blaming.proofs.StayLemmas.{seeking_stays, stayed_explored}
use Rattle.prop_blaming.proofs.blamer.Blamer.seek.Goals as goal

pub returns-clause-ready : goal.returns-clause-ready
returns-clause-ready g c =
    let old = c.args.self.now.seeker in
    let new = c.command-reply.new.self in
    let library = stored_of g.R.Rule.value_of old.teller.session.live.network.library in
    let same = ap (stored_of g.R.Rule.value_of) c.command-reply.ensures.same in
    let stays = seeking_stays g.O.Order.picks library (sought_of old) c.args.line.now
    (answer_of c.command-reply.result) (sought_of new) c.command-reply.ensures.seeks
    (calm_line (is_done (answer_of c.command-reply.result)) (begins (codes "limit") c.args.line.now)
    (sym c.ends.ensures ∙ c.if-ends.false)) in
    record {
      seeker = c.command-reply.ensures.ready;
      explored = stayed_explored (ground_in g.R.Rule.value_of old.teller.session)
          (ground_in g.R.Rule.value_of new.teller.session) c.args.self.now.explorer
          (λ i. record {
            library = same i;
            attached = record {
              kinds = stays.kinds i;
              statements = stays.statements i;
              instances = stays.instances i;
            };
            premises = stays.premises i;
          }) c.requires.ready.explored;
    }

pub returns-then-ends-clause-ready : goal.returns-then-ends-clause-ready
returns-then-ends-clause-ready g c = subst (λ b. IsReady g.R.Rule.value_of b) (sym c.forget.ensures.forgets)
    (record { seeker = c.command-reply.ensures.ready; explored = tt })

pub returns-then-ends-clause-seeks : goal.returns-then-ends-clause-seeks
returns-then-ends-clause-seeks g c = rw c.forget.ensures.seeker c.command-reply.ensures.seeks
