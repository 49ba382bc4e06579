use Rattle.std.proofs.Common.{[], ◌≤◌, arith, None, Ok, Some, length, map, refl}
use Rattle.std.proofs.lemmas.List.{length-map}
use Rattle.prop_procedures.specs.Kept.{stored_of}
use Rattle.prop_language.specs.Commands as commands
use Rattle.prop_language.specs.Said.{words, pairs_of, kind_of, step_of, by_of, value_of}
use Rattle.prop_engine.specs.Answers.{Silent, Done}
use Rattle.prop_workbench.specs.Steps.{Shown}
use Rattle.prop_workbench.specs.Sessions.{state_of, shown_of, work_of}
use Rattle.prop_workbench.proofs.LimitLemmas.{as_many}
use Rattle.prop_workbench.proofs.StepLemmas.{obeys}
use Rattle.prop_workbench.proofs.AnsweredLemmas.{answered_carried, done_carried}
use Rattle.prop_workbench.proofs.CoveringLemmas.{still_obeyed, refused_followed}
use Rattle.prop_workbench.proofs.SoundLemmas.{stays, unchanged}
use Rattle.prop_workbench.proofs.WakingLemmas.{still_added}
use Rattle.prop_workbench.proofs.WordLemmas.{some_elements}
use Rattle.prop_workbench.proofs.session.Session.carry_out.Goals as goal

pub domain-requires-clause-some : goal.domain-requires-clause-some
domain-requires-clause-some g c = rw c.deref.ensures.value
    (some_elements c.in-Domain.name.now c.in-Domain.elements.items (rw c.in-Domain.is at c.requires.some))

pub returns-in-Silent : goal.returns-in-Silent
returns-in-Silent g c =
    let s = c.args.self.now in
    rw c.in-Silent.is (record {
      keeps = stays (unchanged c.requires.sound);
      step = refused_followed (stored_of g.R.Rule.value_of s.live.network.library) (shown_of s) (shown_of s) (Ok None)
          Silent
          0 (λ m covered. covered) (λ named. record { answer_is = refl; new_is = refl; no_steps = refl });
      rests = record { lean = tt; earned = tt; wakes = refl };
    })

pub returns-in-Domain : goal.returns-in-Domain
returns-in-Domain g c =
    rw (c.in-Domain.is, c.of.ensures, ← c.deref.ensures.value)
    (done_carried g.O.Order.picks g.R.Rule.value_of c.args.self.now c.domain.new.self
    (commands.Command.Domain c.in-Domain.name.now (words c.deref.result.now)) c.domain.result tt tt tt
    c.domain.ensures.keeps c.domain.ensures.step c.domain.ensures.wakes)

pub returns-in-Relation : goal.returns-in-Relation
returns-in-Relation g c =
    rw (c.in-Relation.is, c.of-in-Relation.ensures, ← c.deref-in-Relation.ensures.value)
    (done_carried g.O.Order.picks g.R.Rule.value_of c.args.self.now c.relation.new.self
    (commands.Command.Relation c.in-Relation.name.now c.in-Relation.from.now c.in-Relation.to.now
    (pairs_of c.deref-in-Relation.result.now)) c.relation.result tt tt tt c.relation.ensures.keeps
    c.relation.ensures.step c.relation.ensures.wakes)

pub returns-in-Cell : goal.returns-in-Cell
returns-in-Cell g c =
    rw (c.in-Cell.is, c.of-in-Cell.ensures)
    (done_carried g.O.Order.picks g.R.Rule.value_of c.args.self.now c.cell.new.self
    (commands.Command.Cell c.in-Cell.name.now (kind_of c.in-Cell.kind)) c.cell.result tt tt tt c.cell.ensures.keeps
    c.cell.ensures.step c.cell.ensures.wakes)

pub returns-in-Define : goal.returns-in-Define
returns-in-Define g c =
    rw (c.in-Define.is, c.of-in-Define.ensures, ← c.deref-in-Define.ensures.value, ← c.deref-in-Define-2.ensures.value)
    (done_carried g.O.Order.picks g.R.Rule.value_of c.args.self.now c.define.new.self
    (commands.Command.Define c.in-Define.name.now (words c.deref-in-Define.result.now)
    (map step_of c.deref-in-Define-2.result.now)) c.define.result tt tt tt c.define.ensures.keeps
    c.define.ensures.step c.define.ensures.wakes)

pub returns-in-Attach : goal.returns-in-Attach
returns-in-Attach g c =
    rw (c.in-Attach.is, c.of-in-Attach.ensures, ← c.deref-in-Attach.ensures.value)
    (done_carried g.O.Order.picks g.R.Rule.value_of c.args.self.now c.attach.new.self
    (commands.Command.Attach c.in-Attach.name.now (words c.deref-in-Attach.result.now) (by_of c.in-Attach.by))
    c.attach.result tt tt tt c.attach.ensures.keeps c.attach.ensures.step c.attach.ensures.wakes)

pub returns-in-Fix : goal.returns-in-Fix
returns-in-Fix g c =
    rw (c.in-Fix.is, c.of-in-Fix.ensures)
    (done_carried g.O.Order.picks g.R.Rule.value_of c.args.self.now c.say.new.self
    (commands.Command.Fix c.in-Fix.cell.now (value_of c.in-Fix.value)) c.say.result tt tt tt c.say.ensures.keeps
    c.say.ensures.step c.say.ensures.wakes)

pub returns-in-Tell : goal.returns-in-Tell
returns-in-Tell g c =
    rw (c.in-Tell.is, c.of-in-Tell.ensures)
    (done_carried g.O.Order.picks g.R.Rule.value_of c.args.self.now c.say-in-Tell.new.self
    (commands.Command.Tell c.in-Tell.premise.now c.in-Tell.cell.now (value_of c.in-Tell.value)) c.say-in-Tell.result
    tt tt tt c.say-in-Tell.ensures.keeps c.say-in-Tell.ensures.step c.say-in-Tell.ensures.wakes)

pub returns-in-Kick : goal.returns-in-Kick
returns-in-Kick g c =
    rw (c.in-Kick.is, c.of-in-Kick.ensures)
    (done_carried g.O.Order.picks g.R.Rule.value_of c.args.self.now c.kick.new.self
    (commands.Command.Kick c.in-Kick.premise.now) c.kick.result tt tt tt c.kick.ensures.keeps c.kick.ensures.step
    c.kick.ensures.wakes)

pub returns-in-Bring : goal.returns-in-Bring
returns-in-Bring g c =
    rw (c.in-Bring.is, c.of-in-Bring.ensures)
    (done_carried g.O.Order.picks g.R.Rule.value_of c.args.self.now c.bring.new.self
    (commands.Command.Bring c.in-Bring.premise.now) c.bring.result tt tt tt c.bring.ensures.keeps
    c.bring.ensures.step c.bring.ensures.wakes)

pub returns-in-Forget : goal.returns-in-Forget
returns-in-Forget g c = rw (c.in-Forget.is, c.of-in-Forget.ensures)
    (record {
      keeps = c.forget.ensures.stays;
      step = c.forget.ensures.step;
      rests = record { lean = tt; earned = tt; wakes = c.forget.ensures.wakes };
    })

pub returns-in-Settle : goal.returns-in-Settle
returns-in-Settle g c = rw c.in-Settle.is (answered_carried c.answered.ensures)

pub returns-in-Ask : goal.returns-in-Ask
returns-in-Ask g c = rw c.in-Ask.is (answered_carried c.ask.ensures)

pub returns-in-Why : goal.returns-in-Why
returns-in-Why g c = rw c.in-Why.is (answered_carried c.why.ensures)

pub returns-in-Core : goal.returns-in-Core
returns-in-Core g c = rw c.in-Core.is (answered_carried c.core.ensures)

pub returns-in-Worldview : goal.returns-in-Worldview
returns-in-Worldview g c = rw c.in-Worldview.is (answered_carried c.answered-in-Worldview.ensures)

pub returns-in-Limit : goal.returns-in-Limit
returns-in-Limit g c =
    let s = c.args.self.now in
    let sound = c.requires.sound in
    let limited : Shown = record (shown_of s) { state = record (state_of s) { limit = c.in-Limit.steps } } in
    rw c.in-Limit.is (record {
      keeps = record {
        library = refl;
        sound = record {
          at_work = sound.at_work;
          sized = sound.sized;
          locals = sound.locals;
          room = sound.room;
          named = sound.named;
          defined = sound.defined;
        };
        steps = refl;
      };
      step = still_obeyed (stored_of g.R.Rule.value_of s.live.network.library) (shown_of s) limited
          (commands.Command.Limit (Some c.in-Limit.steps)) Done 0 tt (λ m covered. covered)
          (obeys (stored_of g.R.Rule.value_of s.live.network.library) (state_of s) limited.state
          (commands.Command.Limit (Some c.in-Limit.steps)) Done 0 (as_many [] (state_of s))
          (record { answer_is = refl; new_is = refl; no_steps = refl }));
      rests = record { lean = tt; earned = tt; wakes = still_added (work_of s) };
    })

pub choose-requires-clause-some : goal.choose-requires-clause-some
choose-requires-clause-some g c =
    let values = c.in-Choose.values.items in
    let said : (2 ≤ length (map value_of values)) × (length (map value_of values) ≤ 8) =
    rw c.in-Choose.is at c.requires.some in
    rw c.deref-in-Choose.ensures.value (omega (arith, said.0, length-map values value_of))

pub choose-requires-clause-few : goal.choose-requires-clause-few
choose-requires-clause-few g c =
    let values = c.in-Choose.values.items in
    let said : (2 ≤ length (map value_of values)) × (length (map value_of values) ≤ 8) =
    rw c.in-Choose.is at c.requires.some in
    rw c.deref-in-Choose.ensures.value (omega (arith, said.1, length-map values value_of))

pub returns-in-Choose : goal.returns-in-Choose
returns-in-Choose g c =
    rw (c.in-Choose.is, c.of-in-Choose.ensures, ← c.deref-in-Choose.ensures.value)
    (done_carried g.O.Order.picks g.R.Rule.value_of c.args.self.now c.choose.new.self
    (commands.Command.Choose c.in-Choose.choice.now c.in-Choose.cell.now
    (map value_of c.deref-in-Choose.result.now)) c.choose.result tt tt tt c.choose.ensures.keeps
    c.choose.ensures.step c.choose.ensures.wakes)

pub returns-in-Nogoods : goal.returns-in-Nogoods
returns-in-Nogoods g c = rw c.in-Nogoods.is (answered_carried c.nogoods.ensures)
