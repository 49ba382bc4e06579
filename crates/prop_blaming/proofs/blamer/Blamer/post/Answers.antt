use Rattle.std.proofs.Common.{◌∙◌, sym, subst, ap}
use Rattle.prop_procedures.specs.Kept.{stored_of}
use Rattle.prop_workbench.specs.Machine.{State}
use Rattle.prop_workbench.specs.Sessions.{state_of}
use Rattle.prop_workbench.specs.inner.Effects.{name_of}
use Rattle.prop_telling.proofs.PostingLemmas.{no_trace}
use Rattle.prop_seeking.specs.inner.Explored.{ground_in}
use Rattle.prop_blaming.specs.inner.Blamers.{IsReady}
use Rattle.prop_blaming.proofs.StayLemmas.{stayed_explored}
use Rattle.prop_blaming.proofs.blamer.Blamer.post.Goals as goal

pub returns-then-is_without_trace-clause-ready : goal.returns-then-is_without_trace-clause-ready
returns-then-is_without_trace-clause-ready g c =
    let old = c.args.self.now.seeker.teller.session in
    let new = c.post-end.new.self.teller.session in
    let library = stored_of g.R.Rule.value_of old.live.network.library in
    let e = c.post-end.ensures in
    let stays = no_trace library (state_of old) (state_of new) c.args.cells.now c.args.posting
    (name_of c.args.premise) c.post-end.result e.tells.posted (sym c.is_without_trace.ensures
    ∙ c.if-is_without_trace.true) in
    let same = ap (stored_of g.R.Rule.value_of) e.same in
    record {
      seeker = e.ready;
      explored = stayed_explored (ground_in g.R.Rule.value_of old) (ground_in g.R.Rule.value_of new)
          c.args.self.now.explorer
          (λ i. record {
            library = same i;
            attached = record {
              kinds = (stays i).kinds;
              statements = (stays i).statements;
              instances = (stays i).instances;
            };
            premises = (stays i).premises;
          }) c.requires.ready.explored;
    }

pub returns-clause-ready : goal.returns-clause-ready
returns-clause-ready g c = subst (λ b. IsReady g.R.Rule.value_of b) (sym c.forget.ensures.forgets)
    (record { seeker = c.post-end.ensures.ready; explored = tt })
