use Rattle.std.proofs.Common.{refl}
use Rattle.prop_procedures.specs.Kept.{stored_of}
use Rattle.prop_refusals.specs.declared.refusal.Refusal.TheVariants.{Memory}
use Rattle.prop_engine.specs.Answers.{Refused}
use Rattle.prop_workbench.specs.Engine.{standing_of}
use Rattle.prop_telling.specs.inner.Telling.{told_of}
use Rattle.prop_telling.specs.laws.TellingLaws.{memory_works}
use Rattle.prop_telling.proofs.NotingLemmas.{unnoted_by, does_noted}
use Rattle.prop_telling.proofs.telling.Teller.declare.Goals as goal

pub returns-in-Err-clause-does : goal.returns-in-Err-clause-does
returns-in-Err-clause-does g c =
    let t = c.args.self.now in
    let library = stored_of g.R.Rule.value_of t.session.live.network.library in
    does_noted g.O.Order.picks library (told_of t) c.args.line.now (Refused Memory) (told_of t)
    (memory_works g.O.Order.picks library (standing_of t.session) c.args.line.now c.in-Err.ensures.err)
    (unnoted_by (told_of t) c.args.line.now (Refused Memory) t.notes c.in-Err.ensures.err refl refl) c.requires.may
