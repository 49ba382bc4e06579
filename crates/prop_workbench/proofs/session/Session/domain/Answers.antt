use Rattle.std.proofs.Common.{◌∙◌, All, refl}
use Rattle.std.proofs.lemmas.Result.{on_ok_weaker, on_err_weaker}
use Rattle.prop_language.specs.Commands as commands
use Rattle.prop_language.specs.Said.{words}
use Rattle.prop_procedures.specs.Kept.{stored_of}
use Rattle.prop_vocabulary.specs.Vocabulary.{Vocabulary, with_domain}
use Rattle.prop_workbench.specs.Sessions.{state_of, state_from, work_of, AreNumbered}
use Rattle.prop_compound.specs.Kinds.{IsSized}
use Rattle.prop_workbench.proofs.SoundLemmas.{made_or_not}
use Rattle.prop_workbench.proofs.DeclareLemmas.{domain_refused}
use Rattle.prop_workbench.proofs.StepLemmas.{obeys_done, reason_is}
use Rattle.prop_workbench.proofs.WordLemmas.{sized_more}
use Rattle.prop_workbench.proofs.DefinedLemmas.{numbered_domain}
use Rattle.prop_workbench.proofs.WakingLemmas.{left_by, still_added}
use Rattle.prop_workbench.proofs.session.Session.domain.Goals as goal

pub returns-clause-keeps : goal.returns-clause-keeps
returns-clause-keeps g c =
    let s = c.args.self.now in
    let made = with_domain s.words c.args.name.now (words c.args.elements.now) in
    let r = c.declare_domain.result in
    record {
      library = refl;
      sound = record {
        at_work = c.requires.sound.at_work;
        sized = made_or_not (λ (w : Vocabulary). All (IsSized w) s.live.network.cells.kinds) s.words
            c.declare_domain.new.self made r c.declare_domain.ensures.ok c.declare_domain.ensures.err
            c.requires.sound.sized (sized_more s.words c.args.name.now (words c.args.elements.now)
            s.live.network.cells.kinds
            c.requires.sound.sized);
        locals = made_or_not (λ (w : Vocabulary). AreNumbered w s.definitions) s.words
            c.declare_domain.new.self made r c.declare_domain.ensures.ok c.declare_domain.ensures.err
            c.requires.sound.locals (numbered_domain s.words c.args.name.now (words c.args.elements.now) s.definitions
            c.requires.sound.locals);
        room = c.requires.sound.room;
        named = c.requires.sound.named;
        defined = c.requires.sound.defined;
      };
      steps = refl;
      covers = λ m covered. covered;
    }

pub returns-clause-step : goal.returns-clause-step
returns-clause-step g c =
    let s = c.args.self.now in
    let library = stored_of g.R.Rule.value_of s.live.network.library in
    let refused = domain_refused library (state_of s) c.args.name.now (words c.args.elements.now) in
    obeys_done library (state_of s) _
    (commands.Command.Domain c.args.name.now (words c.args.elements.now)) c.declare_domain.result
    (on_ok_weaker c.declare_domain.result (λ e. refused ∙ e) c.declare_domain.ensures.allowed)
    (on_ok_weaker c.declare_domain.result
    (λ e. record {
      answer_is = refl;
      new_is = λ i. state_from s.names (e i) s.definitions s.search.premises s.live.network.cells s.limit;
      no_steps = refl;
    })
    c.declare_domain.ensures.ok) (reason_is c.declare_domain.result _ _ refused c.declare_domain.ensures.why)
    (on_err_weaker c.declare_domain.result (λ e i. state_from s.names (e i) s.definitions s.search.premises
    s.live.network.cells s.limit) c.declare_domain.ensures.err)

pub returns-clause-wakes : goal.returns-clause-wakes
returns-clause-wakes g c =
    let s = c.args.self.now in
    let new = record s { words = c.declare_domain.new.self } in
    left_by s new (commands.Command.Domain c.args.name.now (words c.args.elements.now)) c.declare_domain.result
    (still_added (work_of s)) (λ e. refl)
