use Rattle.std.proofs.Common.{◌≡◌, ◌≤◌, ◌∙◌, [], ap, sym}
use Rattle.std.proofs.lemmas.Bool.{false≢true}
use Rattle.prop_engine.specs.Answers.{answer_of}
use Rattle.prop_procedures.specs.Kept.{stored_of}
use Rattle.prop_workbench.specs.Machine.{State}
use Rattle.prop_workbench.specs.inner.Machine.{naming}
use Rattle.prop_workbench.specs.Sessions.{state_of, shown_of, work_of, steps_of}
use Rattle.prop_workbench.proofs.EarnedLemmas.{earns_none}
use Rattle.prop_workbench.proofs.LineLemmas.{covers_none, still_lacking, step_of_read}
use Rattle.prop_workbench.proofs.StepLemmas.{lacking_same, steps_within}
use Rattle.prop_workbench.proofs.session.Session.command_read.Goals as goal

pub returns-then-is_memory-clause-step : goal.returns-then-is_memory-clause-step
returns-then-is_memory-clause-step g c =
    let s = c.args.self.now in
    let library = stored_of g.R.Rule.value_of s.live.network.library in
    let new = shown_of c.follow-reply.new.self in
    let read = c.follow-reply.ensures.read in
    step_of_read library (shown_of s) new c.args.line.now read.0 (answer_of c.follow-reply.result.0) _ read.1
    (still_lacking library (shown_of s) new read.0 (answer_of c.follow-reply.result.0) c.follow-reply.result.1 _
    (c.is_memory.ensures.0 c.if-is_memory.true) read.2.step)

pub returns-clause-step : goal.returns-clause-step
returns-clause-step g c =
    let s = c.args.self.now in
    let read = c.follow-reply.ensures.read in
    step_of_read (stored_of g.R.Rule.value_of s.live.network.library) (shown_of s) (shown_of c.follow-reply.new.self)
    c.args.line.now read.0 (answer_of c.follow-reply.result.0) c.follow-reply.result.1 read.1 read.2.step

pub returns-then-is_memory-clause-sound : goal.returns-then-is_memory-clause-sound
returns-then-is_memory-clause-sound g c =
    let s = c.args.self.now in
    let read = c.follow-reply.ensures.read in
    let on = read.2.step [] (covers_none (shown_of s)) in
    let same : naming (state_of c.follow-reply.new.self) on.now ≡ state_of s =
    lacking_same (stored_of g.R.Rule.value_of s.live.network.library) (state_of s)
    (naming (state_of c.follow-reply.new.self) on.now) read.0 _ _ (c.is_memory.ensures.0 c.if-is_memory.true)
    on.step in
    let within : steps_of s ≤ (state_of s).limit = c.requires.sound.within in
    record {
      in_order = c.follow-reply.ensures.keeps.sound;
      within = rw (c.follow-reply.ensures.keeps.steps, ap (λ (t : State). t.limit) same) within;
    }

pub returns-clause-sound : goal.returns-clause-sound
returns-clause-sound g c =
    let s = c.args.self.now in
    let read = c.follow-reply.ensures.read in
    let on = read.2.step [] (covers_none (shown_of s)) in
    record {
      in_order =
          let sound = c.follow-reply.ensures.keeps.sound in
          record {
            at_work = sound.at_work;
            sized = sound.sized;
            locals = sound.locals;
            room = sound.room;
            named = sound.named;
            defined = sound.defined;
          };
      within = steps_within (stored_of g.R.Rule.value_of s.live.network.library) (state_of s)
          (naming (state_of c.follow-reply.new.self) on.now) read.0 _ _
          (λ e. false≢true (sym c.if-is_memory.false ∙ c.is_memory.ensures.1 e)) on.step;
    }

pub returns-then-is_memory-clause-earned : goal.returns-then-is_memory-clause-earned
returns-then-is_memory-clause-earned g c =
    let read = c.follow-reply.ensures.read in (
      read.0,
      read.1,
      earns_none _ (stored_of g.R.Rule.value_of c.args.self.now.live.network.library)
          (state_of c.args.self.now) (work_of c.args.self.now) _ read.0 _ _ (c.is_memory.ensures.0 c.if-is_memory.true),
    )

pub returns-clause-earned : goal.returns-clause-earned
returns-clause-earned g c =
    let read = c.follow-reply.ensures.read in
    (read.0, read.1, read.2.rests.earned)

pub returns-then-is_memory-clause-wakes : goal.returns-then-is_memory-clause-wakes
returns-then-is_memory-clause-wakes g c =
    let read = c.follow-reply.ensures.read in
    (read.0, read.1, read.2.rests.wakes)

pub returns-clause-wakes : goal.returns-clause-wakes
returns-clause-wakes g c =
    let read = c.follow-reply.ensures.read in
    (read.0, read.1, read.2.rests.wakes)

pub returns-then-is_memory-clause-lean : goal.returns-then-is_memory-clause-lean
returns-then-is_memory-clause-lean g c =
    let read = c.follow-reply.ensures.read in
    (read.0, read.1, read.2.rests.lean)

pub returns-clause-lean : goal.returns-clause-lean
returns-clause-lean g c =
    let read = c.follow-reply.ensures.read in
    (read.0, read.1, read.2.rests.lean)
