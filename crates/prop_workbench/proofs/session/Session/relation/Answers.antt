use Rattle.std.proofs.Common.{◌∙◌, All, refl}
use Rattle.std.proofs.lemmas.Result.{on_ok_weaker, on_err_weaker}
use Rattle.prop_language.specs.Commands as commands
use Rattle.prop_language.specs.Said.{pairs_of}
use Rattle.prop_procedures.specs.Kept.{stored_of}
use Rattle.prop_vocabulary.specs.Vocabulary.{Vocabulary, with_relation, relation_of}
use Rattle.prop_workbench.specs.Sessions.{state_of, state_from, work_of, AreNumbered}
use Rattle.prop_compound.specs.Kinds.{IsSized}
use Rattle.prop_workbench.proofs.SoundLemmas.{made_or_not}
use Rattle.prop_workbench.proofs.DeclareLemmas.{relation_refused}
use Rattle.prop_workbench.proofs.StepLemmas.{obeys_done, reason_is}
use Rattle.prop_workbench.proofs.WordLemmas.{sized_same}
use Rattle.prop_workbench.proofs.DefinedLemmas.{numbered_relation, compounds_still}
use Rattle.prop_workbench.proofs.WakingLemmas.{left_by, still_added}
use Rattle.prop_workbench.proofs.session.Session.relation.Goals as goal

pub returns-clause-keeps : goal.returns-clause-keeps
returns-clause-keeps g c =
    let s = c.args.self.now in
    let made = with_relation s.words c.args.name.now c.args.from.now c.args.to.now (pairs_of c.args.pairs.now) in
    let r = c.declare_relation.result in
    record {
      library = refl;
      sound = record {
        at_work = c.requires.sound.at_work;
        sized = made_or_not (λ (w : Vocabulary). All (IsSized w) s.live.network.cells.kinds) s.words
            c.declare_relation.new.self made r c.declare_relation.ensures.ok c.declare_relation.ensures.err
            c.requires.sound.sized (sized_same s.words
            (with_relation s.words c.args.name.now c.args.from.now c.args.to.now (pairs_of c.args.pairs.now))
            s.live.network.cells.kinds refl c.requires.sound.sized);
        locals = made_or_not (λ (w : Vocabulary). AreNumbered w s.definitions) s.words
            c.declare_relation.new.self made r c.declare_relation.ensures.ok c.declare_relation.ensures.err
            c.requires.sound.locals (numbered_relation s.words c.args.name.now
            (relation_of s.words c.args.from.now c.args.to.now (pairs_of c.args.pairs.now))
            s.definitions c.requires.sound.locals);
        room = c.requires.sound.room;
        named = c.requires.sound.named;
        defined = c.requires.sound.defined;
      };
      steps = refl;
      covers = λ m covered. covered;
    }

pub returns-clause-step : goal.returns-clause-step
returns-clause-step g c =
    let s = c.args.self.now in
    let library = stored_of g.R.Rule.value_of s.live.network.library in
    let made = with_relation s.words c.args.name.now c.args.from.now c.args.to.now (pairs_of c.args.pairs.now) in
    let refused = relation_refused library (state_of s) c.args.name.now c.args.from.now c.args.to.now
    (pairs_of c.args.pairs.now) in
    obeys_done library (state_of s) _
    (commands.Command.Relation c.args.name.now c.args.from.now c.args.to.now (pairs_of c.args.pairs.now))
    c.declare_relation.result
    (on_ok_weaker c.declare_relation.result (λ e. refused ∙ e) c.declare_relation.ensures.allowed)
    (on_ok_weaker c.declare_relation.result
    (λ e. record {
      answer_is = refl;
      new_is = (λ i. state_from s.names (e i) s.definitions s.search.premises s.live.network.cells s.limit)
          ∙ (λ i. record (state_of s) {
            words = made;
            definitions = compounds_still s.words (relation_of s.words c.args.from.now c.args.to.now
                (pairs_of c.args.pairs.now)) s.definitions c.requires.sound.locals i;
          });
      no_steps = refl;
    })
    c.declare_relation.ensures.ok) (reason_is c.declare_relation.result _ _ refused c.declare_relation.ensures.why)
    (on_err_weaker c.declare_relation.result (λ e i. state_from s.names (e i) s.definitions s.search.premises
    s.live.network.cells s.limit)
    c.declare_relation.ensures.err)

pub returns-clause-wakes : goal.returns-clause-wakes
returns-clause-wakes g c =
    let s = c.args.self.now in
    let new = record s { words = c.declare_relation.new.self } in
    left_by s new (commands.Command.Relation c.args.name.now c.args.from.now c.args.to.now (pairs_of c.args.pairs.now))
    c.declare_relation.result (still_added (work_of s)) (λ e. refl)
