use Rattle.std.proofs.Common.{◌≡◌, ◌∙◌, ap, inl, refl, subst, length, Ok, Err}
use Rattle.std.proofs.lemmas.Result.{IfOk-weaker}
use Rattle.prop_refusals.specs.declared.refusal.Refusal.TheVariants.{Memory}
use Rattle.prop_language.specs.Reading.{IsReading}
use Rattle.prop_language.specs.Said.{Reads, said}
use Rattle.prop_workbench.proofs.HeardLemmas.{follows_refused}
use Rattle.prop_notes.specs.Notes.{note_read}
use Rattle.prop_telling.proofs.NotingLemmas.{some_lacks, on_err, other_one}
use Rattle.prop_telling.proofs.telling.Teller.note.Goals as goal

pub returns-in-Ok-clause-ok : goal.returns-in-Ok-clause-ok
returns-in-Ok-clause-ok g c =
    let s = c.args.self.now.session in
    let network = c.network-network.ensures ∙ ap (λ l. l.network) c.live.ensures in
    let cells : c.cells-cells.result ≡ length s.live.network.cells.kinds = c.cells-cells.ensures.count
    ∙ ap (λ n. length n.cells.kinds) network in
    let instances : c.instances-instances.result ≡ length s.live.network.cells.instances =
    c.instances-instances.ensures.count ∙ ap (λ n. length n.cells.instances) network in
    IfOk-weaker c.note_of.result _ _
    (λ note is. (
      Ok (said c.in-Ok.command),
      subst (λ r. Reads r (IsReading c.args.line.now)) c.in-Ok.is c.requires.read,
      is ∙ (λ i. note_read c.args.self.now.notes (cells i) (instances i) (Ok (said c.in-Ok.command))),
    )) c.note_of.ensures.ok

pub returns-in-Ok-clause-err : goal.returns-in-Ok-clause-err
returns-in-Ok-clause-err g c =
    on_err c.note_of.result (some_lacks c.args.line.now (said c.in-Ok.command)
    (subst (λ r. Reads r (IsReading c.args.line.now)) c.in-Ok.is c.requires.read))
    c.note_of.ensures.err

pub returns-in-Memory-clause-err : goal.returns-in-Memory-clause-err
returns-in-Memory-clause-err g c =
    follows_refused c.args.line.now Memory (inl refl) (λ m. c.requires.memory (c.in-Err.is ∙ ap Err c.in-Memory.is))

pub returns-in_default : goal.returns-in_default
returns-in_default g c = record {
  ok = (
    Err c.in-Err.refusal,
    other_one (subst (λ r. Reads r (IsReading c.args.line.now)) c.in-Err.is c.requires.read)
        c.in_default.not-Memory,
    refl,
  );
  err = tt;
}
