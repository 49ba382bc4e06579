use Rattle.std.proofs.Common.{◌∙◌, sym, arith, [], List, ℕ}
use Rattle.std.specs.Borrow.{Bor}
use Rattle.std.proofs.lemmas.List.{length-map, get_or-map}
use Rattle.prop_procedures.specs.Kept.{stored_of}
use Rattle.prop_language.specs.Said.{words}
use Rattle.prop_engine.specs.Answers.{answer_of}
use Rattle.prop_workbench.proofs.LoadLemmas.{loads_next, no_refusal}
use Rattle.prop_requiring.specs.Requiring.{requiring}
use Rattle.prop_seeking.specs.inner.Seekers.{sought_of}
use Rattle.prop_requiring.proofs.requirer.Requirer.load_prelude.Goals as goal

pub loop-line-preserved : goal.loop-line-preserved
loop-line-preserved g c =
    let lines = words c.args.lines.now in
    let i = c.loop-line.line-index in
    let l = c.loop-line-test.true in
    let line = c.as_bytes.ensures.value ∙ sym (get_or-map (λ (w : Bor (List ℕ)). w.now) c.args.lines.now i _ [] l) in
    let s = c.args.self.now in
    let library = stored_of g.R.Rule.value_of s.blamer.seeker.teller.session.live.network.library in
    let requires_it = rw c.loop-line.invariant.same at c.command.ensures.requires_it in
    record {
      same = c.command.ensures.same ∙ c.loop-line.invariant.same;
      ready = c.command.ensures.ready;
      loaded = loads_next (requiring g.O.Order.picks library) (sought_of s.blamer.seeker)
          (sought_of c.loop-line.self.blamer.seeker)
          (sought_of c.command.new.self.blamer.seeker) lines i c.as_bytes.result.now (answer_of c.command.result)
          (omega (arith, l, length-map c.args.lines.now (λ (w : Bor (List ℕ)). w.now))) line
          c.loop-line.invariant.loaded (no_refusal c.command.result c.in_default.not-Refused) requires_it;
    }
