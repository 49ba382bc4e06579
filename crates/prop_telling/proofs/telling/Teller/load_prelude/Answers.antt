use Rattle.std.proofs.Common.{◌∙◌, sym, arith, [], List, ℕ}
use Rattle.std.specs.Borrow.{Bor}
use Rattle.std.proofs.lemmas.List.{length-map, get_or-map}
use Rattle.prop_procedures.specs.Kept.{stored_of}
use Rattle.prop_language.specs.Said.{words}
use Rattle.prop_engine.specs.Answers.{answer_of}
use Rattle.prop_workbench.proofs.LoadLemmas.{loads_next, no_refusal}
use Rattle.prop_telling.specs.Telling.{telling}
use Rattle.prop_telling.specs.inner.Telling.{told_of}
use Rattle.prop_telling.proofs.telling.Teller.load_prelude.Goals as goal

pub command-requires-clause-means : goal.command-requires-clause-means
command-requires-clause-means g c = rw c.loop-line.invariant.same c.requires.means

pub command-requires-clause-sound : goal.command-requires-clause-sound
command-requires-clause-sound g c = c.loop-line.invariant.sound

pub loop-line-preserved : goal.loop-line-preserved
loop-line-preserved g c =
    let lines = words c.args.lines.now in
    let i = c.loop-line.line-index in
    let l = c.loop-line-test.true in
    let line = c.as_bytes.ensures.value ∙ sym (get_or-map (λ (w : Bor (List ℕ)). w.now) c.args.lines.now i _ [] l) in
    let t = c.args.self.now in
    let library = stored_of g.R.Rule.value_of t.session.live.network.library in
    let tells = rw c.loop-line.invariant.same at c.command.ensures.tells in
    record {
      same = c.command.ensures.same ∙ c.loop-line.invariant.same;
      sound = c.command.ensures.sound;
      loaded = loads_next (telling g.O.Order.picks library) (told_of t) (told_of c.loop-line.self)
          (told_of c.command.new.self) lines i c.as_bytes.result.now (answer_of c.command.result)
          (omega (arith, l, length-map c.args.lines.now (λ (w : Bor (List ℕ)). w.now))) line
          c.loop-line.invariant.loaded (no_refusal c.command.result c.in_default.not-Refused) tells;
    }
