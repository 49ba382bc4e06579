use Rattle.std.proofs.Common.{◌≡◌, ◌∙◌, sym, refl, take}
use Rattle.prop_procedures.specs.Kept.{stored_of}
use Rattle.prop_refusals.specs.declared.refusal.Refusal.TheVariants.{Memory}
use Rattle.prop_engine.specs.Answers.{Refused, answer_of}
use Rattle.prop_workbench.specs.Engine.{standing_of}
use Rattle.prop_notes.specs.inner.Notes.{note_value}
use Rattle.prop_telling.specs.inner.Telling.{told_of}
use Rattle.prop_telling.specs.laws.TellingLaws.{memory_works}
use Rattle.prop_notes.proofs.NoteLemmas.{taken_back}
use Rattle.prop_telling.proofs.NotingLemmas.{declares_lacks, unnoted_by, does_noted}
use Rattle.prop_telling.proofs.telling.Teller.declare_noted.Goals as goal

pub returns-then-not-is_done-clause-does : goal.returns-then-not-is_done-clause-does
returns-then-not-is_done-clause-does g c =
    let t = c.args.self.now in
    let library = stored_of g.R.Rule.value_of t.session.live.network.library in
    let counts = c.counts-domains.ensures in
    let noted = c.pass_read-reply.ensures.notes ∙ c.in-Ok.ensures.ok in
    let same : c.back.new.self ≡ t.notes = c.back.ensures
    ∙ (λ i. record {
      domains = take (counts i).0 (noted i).domains;
      definitions = take (counts i).1 (noted i).definitions;
      uses = take (counts i).2 (noted i).uses;
    })
    ∙ taken_back t.notes (note_value c.args.note) in
    does_noted g.O.Order.picks library (told_of t) c.args.line.now (answer_of c.pass_read-reply.result)
    (record { standing = standing_of c.pass_read-reply.new.self.session; notes = c.back.new.self })
    c.pass_read-reply.ensures.works
    (unnoted_by (told_of t) c.args.line.now (answer_of c.pass_read-reply.result) c.back.new.self c.requires.noted
    (sym c.is_done.ensures ∙ c.if-not-is_done.true) same) c.requires.may

pub returns-in-Err-clause-does : goal.returns-in-Err-clause-does
returns-in-Err-clause-does g c =
    let t = c.args.self.now in
    let library = stored_of g.R.Rule.value_of t.session.live.network.library in
    does_noted g.O.Order.picks library (told_of t) c.args.line.now (Refused Memory)
    (record { standing = standing_of t.session; notes = c.add.new.self })
    (memory_works g.O.Order.picks library (standing_of t.session) c.args.line.now
    (declares_lacks t.notes _ _ c.args.line.now (note_value c.args.note) c.requires.noted))
    (unnoted_by (told_of t) c.args.line.now (Refused Memory) c.add.new.self c.requires.noted refl c.in-Err.ensures.err)
    c.requires.may
