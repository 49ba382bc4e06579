use Rattle.std.proofs.Common.{◌∙◌, sym, subst, arith, [], List, ℕ}
use Rattle.std.specs.Borrow.{Bor}
use Rattle.std.proofs.lemmas.List.{length-map, get_or-map}
use Rattle.prop_procedures.specs.Kept.{stored_of}
use Rattle.prop_language.specs.Said.{words}
use Rattle.prop_engine.specs.Answers.{answer_of}
use Rattle.prop_workbench.specs.Engine.{standing_of, WorkFits, working}
use Rattle.prop_workbench.proofs.WorkLemmas.{works_by, sound_fits}
use Rattle.prop_workbench.proofs.LoadLemmas.{loads_next, stops_at, no_refusal}
use Rattle.prop_workbench.proofs.session.Session.load_prelude.Goals as goal

pub returns-in-Refused-clause-err : goal.returns-in-Refused-clause-err
returns-in-Refused-clause-err g c =
    let lines = words c.args.lines.now in
    let i = c.loop-line.line-index in
    let l = c.loop-line-test.true in
    let line = c.as_bytes.ensures.value ∙ sym (get_or-map (λ (w : Bor (List ℕ)). w.now) c.args.lines.now i _ [] l) in
    let s = c.args.self.now in
    let library = stored_of g.R.Rule.value_of s.live.network.library in
    let e = c.command.ensures in
    let fits = subst (λ it. WorkFits (stored_of g.R.Rule.value_of it) (standing_of c.command.new.self))
    (e.same ∙ c.loop-line.invariant.same) (sound_fits g.R.Rule.value_of c.command.new.self e.sound) in
    let works = works_by g.O.Order.picks library c.loop-line.self c.command.new.self c.as_bytes.result.now
    (answer_of c.command.result) (rw c.loop-line.invariant.same at e.step) fits e.lean
    (rw c.loop-line.invariant.same at e.earned) e.wakes in
    stops_at (working g.O.Order.picks library) (standing_of s) (standing_of c.loop-line.self)
    (standing_of c.command.new.self) lines i c.as_bytes.result.now c.in-Refused.refusal
    (omega (arith, l, length-map c.args.lines.now (λ (w : Bor (List ℕ)). w.now))) line c.loop-line.invariant.loaded
    (rw c.in-Refused.is at works)

pub loop-line-preserved : goal.loop-line-preserved
loop-line-preserved g c =
    let lines = words c.args.lines.now in
    let i = c.loop-line.line-index in
    let l = c.loop-line-test.true in
    let line = c.as_bytes.ensures.value ∙ sym (get_or-map (λ (w : Bor (List ℕ)). w.now) c.args.lines.now i _ [] l) in
    let s = c.args.self.now in
    let library = stored_of g.R.Rule.value_of s.live.network.library in
    let e = c.command.ensures in
    let fits = subst (λ it. WorkFits (stored_of g.R.Rule.value_of it) (standing_of c.command.new.self))
    (e.same ∙ c.loop-line.invariant.same) (sound_fits g.R.Rule.value_of c.command.new.self e.sound) in
    let works = works_by g.O.Order.picks library c.loop-line.self c.command.new.self c.as_bytes.result.now
    (answer_of c.command.result) (rw c.loop-line.invariant.same at e.step) fits e.lean
    (rw c.loop-line.invariant.same at e.earned) e.wakes in
    record {
      same = c.command.ensures.same ∙ c.loop-line.invariant.same;
      sound = c.command.ensures.sound;
      loaded = loads_next (working g.O.Order.picks library) (standing_of s) (standing_of c.loop-line.self)
          (standing_of c.command.new.self) lines i c.as_bytes.result.now (answer_of c.command.result)
          (omega (arith, l, length-map c.args.lines.now (λ (w : Bor (List ℕ)). w.now))) line
          c.loop-line.invariant.loaded (no_refusal c.command.result c.in_default.not-Refused) works;
    }
