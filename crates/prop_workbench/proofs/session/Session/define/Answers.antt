use Rattle.std.proofs.Common.{◌≡◌, ◌∙◌, None, map, refl}
use Rattle.std.specs.Prelude.{OnOk, IfErr}
use Rattle.prop_vocabulary.specs.Refusing.{IsReason}
use Rattle.prop_compound.specs.Defining.{define_refusal, with_definition}
use Rattle.std.proofs.lemmas.Result.{on_ok_weaker, on_err_weaker}
use Rattle.prop_language.specs.Commands as commands
use Rattle.prop_language.specs.Said.{words, step_of}
use Rattle.prop_procedures.specs.Kept.{stored_of}
use Rattle.prop_workbench.specs.Sessions.{state_of, state_from, work_of}
use Rattle.prop_workbench.proofs.DefinedLemmas.{defined_numbered, defined_compounds, defined_allowed, defined_why}
use Rattle.prop_workbench.proofs.DeclareLemmas.{define_refused}
use Rattle.prop_workbench.proofs.StepLemmas.{obeys_done, reason_is}
use Rattle.prop_workbench.proofs.WakingLemmas.{left_by, still_added}
use Rattle.prop_workbench.proofs.session.Session.define.Goals as goal

pub returns-clause-keeps : goal.returns-clause-keeps
returns-clause-keeps g c =
    let s = c.args.self.now in
    record {
      library = refl;
      sound = record {
        at_work = c.requires.sound.at_work;
        sized = c.requires.sound.sized;
        locals = defined_numbered (stored_of g.R.Rule.value_of s.live.network.library) s.words s.definitions
            c.define.new.self c.args.name.now (words c.args.params.now) (map step_of c.args.steps.now)
            c.requires.sound.locals c.define.result
            (rw (c.library.ensures, c.network.ensures) at c.define.ensures.fits)
            (rw (c.library.ensures, c.network.ensures) at c.define.ensures.ok) c.define.ensures.err_same
            (c.define.ensures.locals c.requires.sound.locals.locals);
        room = c.requires.sound.room;
        named = c.requires.sound.named;
        defined = rw (c.library.ensures, c.network.ensures) at c.define.ensures.over;
      };
      steps = refl;
      covers = λ m covered. covered;
    }

pub returns-clause-step : goal.returns-clause-step
returns-clause-step g c =
    let s = c.args.self.now in
    let library = stored_of g.R.Rule.value_of s.live.network.library in
    let name = c.args.name.now in
    let params = words c.args.params.now in
    let steps = map step_of c.args.steps.now in
    let new = c.define.new.self in
    let r = c.define.result in
    let numbered = c.requires.sound.locals in
    let fits : OnOk r (define_refusal library s.words s.definitions name params steps ≡ None) =
    rw (c.library.ensures, c.network.ensures) at c.define.ensures.fits in
    let ok : OnOk r (new ≡ with_definition library s.words s.definitions name params steps) =
    rw (c.library.ensures, c.network.ensures) at c.define.ensures.ok in
    let why : IfErr r (IsReason (define_refusal library s.words s.definitions name params steps)) =
    rw (c.library.ensures, c.network.ensures) at c.define.ensures.err in
    let refused = define_refused library (state_of s) name params steps in
    obeys_done library (state_of s) _ (commands.Command.Define name params steps) r
    (on_ok_weaker r (λ e. refused ∙ e)
    (defined_allowed library s.words s.definitions new name params steps numbered r fits))
    (on_ok_weaker r (λ e. record {
      answer_is = refl;
      new_is = λ i. record (state_of s) { definitions = e i };
      no_steps = refl;
    }) (defined_compounds library s.words s.definitions new name params steps numbered r fits ok))
    (reason_is r _ _ refused (defined_why library s.words s.definitions new name params steps numbered r why))
    (on_err_weaker r (λ e i. state_from s.names s.words (e i) s.search.premises s.live.network.cells s.limit)
    c.define.ensures.err_same)

pub returns-clause-wakes : goal.returns-clause-wakes
returns-clause-wakes g c =
    let s = c.args.self.now in
    let new = record s { definitions = c.define.new.self } in
    left_by s new (commands.Command.Define c.args.name.now (words c.args.params.now) (map step_of c.args.steps.now))
    c.define.result (still_added (work_of s)) (λ e. refl)
