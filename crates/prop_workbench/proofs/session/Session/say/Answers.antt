use Rattle.std.proofs.Common.{◌≡◌, ◌∙◌, ◌<◌, Some, Ok, Err, refl, sym, ap, length}
use Rattle.prop_refusals.specs.declared.refusal.Refusal.TheVariants.{NoSuchCell}
use Rattle.prop_procedures.specs.Kept.{stored_of}
use Rattle.prop_procedures.specs.Stored.{span_kind}
use Rattle.prop_procedures.specs.Fitting.{kind_at}
use Rattle.prop_language.specs.Said.{value_of}
use Rattle.prop_vocabulary.specs.Said.{meant_of}
use Rattle.prop_workbench.specs.inner.Effects.{stating, name_of}
use Rattle.prop_workbench.specs.inner.Refusing.{meaning_at}
use Rattle.prop_workbench.specs.Sessions.{state_of}
use Rattle.prop_vocabulary.proofs.CellLookups.{of_named}
use Rattle.prop_vocabulary.specs.Texts.{elements_of_kind}
use Rattle.prop_workbench.proofs.StepLemmas.{refuses}
use Rattle.prop_workbench.proofs.ValueLemmas.{value_refused, choice_told, told_nowhere, told_or_not, value_may_be}
use Rattle.prop_workbench.proofs.WakingLemmas.{left_stating}
use Rattle.prop_workbench.proofs.session.Session.say.Goals as goal

pub returns-in-Err-clause-step : goal.returns-in-Err-clause-step
returns-in-Err-clause-step g c =
    let s = c.args.self.now in
    let library = stored_of g.R.Rule.value_of s.live.network.library in
    let kind : kind_at s.live.network.cells.kinds c.in-Some.cell ≡ c.kind-kind.result =
    sym (rw (c.data.ensures, c.network.ensures) at c.kind-kind.ensures) in
    let said : meaning_at s.words (kind_at s.live.network.cells.kinds c.in-Some.cell).kind (value_of c.args.value.now)
    ≡ Err
    c.in-Err.refusal = rw (← kind) at c.in-Err.ensures.err in
    refuses library (state_of s) (state_of s)
    (stating (name_of c.args.premise) c.args.name.now (value_of c.args.value.now)) c.in-Err.refusal
    (value_refused library (state_of s) (name_of c.args.premise) c.args.name.now (value_of c.args.value.now)
    c.in-Some.cell c.in-Err.refusal (sym c.in-Some.ensures.number) said) refl

pub state_meant-requires-clause-may : goal.state_meant-requires-clause-may
state_meant-requires-clause-may g c =
    let s = c.args.self.now in
    let below : c.in-Some.cell < length s.live.network.cells.kinds =
    of_named (λ k. k < length s.live.network.cells.kinds) s.names c.args.name.now c.in-Some.cell c.requires.sound.named
    (sym c.in-Some.ensures.number) in
    let kind : kind_at s.live.network.cells.kinds c.in-Some.cell ≡ c.kind-kind.result =
    sym (rw (c.data.ensures, c.network.ensures) at c.kind-kind.ensures) in
    let said : meaning_at s.words (kind_at s.live.network.cells.kinds c.in-Some.cell).kind (value_of c.args.value.now)
    ≡ Ok
    (meant_of c.in-Ok.meant) = rw (← kind) at c.in-Ok.ensures.ok in
    let few = rw (← kind) at c.in-Ok.ensures.few in
    value_may_be (kind_at s.live.network.cells.kinds c.in-Some.cell)
    (elements_of_kind s.words (kind_at s.live.network.cells.kinds c.in-Some.cell).kind) (value_of c.args.value.now)
    (meant_of c.in-Ok.meant)
    (c.requires.sound.sized c.in-Some.cell span_kind below).1 few said

pub returns-in-None-clause-wakes : goal.returns-in-None-clause-wakes
returns-in-None-clause-wakes g c =
    let s = c.args.self.now in
    left_stating s s (name_of c.args.premise) c.args.name.now (value_of c.args.value.now) (Err NoSuchCell) refl

pub returns-in-Err-clause-wakes : goal.returns-in-Err-clause-wakes
returns-in-Err-clause-wakes g c =
    let s = c.args.self.now in
    left_stating s s (name_of c.args.premise) c.args.name.now (value_of c.args.value.now) (Err c.in-Err.refusal) refl

pub returns-in-Err-under-clause-step : goal.returns-in-Err-under-clause-step
returns-in-Err-under-clause-step g c =
    let s = c.args.self.now in
    let library = stored_of g.R.Rule.value_of s.live.network.library in
    let kind : kind_at s.live.network.cells.kinds c.in-Some.cell ≡ c.kind-kind.result =
    sym (rw (c.data.ensures, c.network.ensures) at c.kind-kind.ensures) in
    let said : meaning_at s.words (kind_at s.live.network.cells.kinds c.in-Some.cell).kind (value_of c.args.value.now)
    ≡ Ok (meant_of c.in-Ok.meant) = rw (← kind) at c.in-Ok.ensures.ok in
    let why = c.in-Err-under.ensures.err in
    refuses library (state_of s) (state_of s)
    (stating (name_of c.args.premise) c.args.name.now (value_of c.args.value.now)) c.in-Err-under.refusal
    (choice_told library (state_of s) (name_of c.args.premise) c.args.name.now (value_of c.args.value.now)
    c.in-Some.cell (meant_of c.in-Ok.meant) (sym c.in-Some.ensures.number) said why.1 ∙ sym (ap Some why.0)) refl

pub returns-in-Err-under-clause-wakes : goal.returns-in-Err-under-clause-wakes
returns-in-Err-under-clause-wakes g c =
    let s = c.args.self.now in
    left_stating s s (name_of c.args.premise) c.args.name.now (value_of c.args.value.now) (Err c.in-Err-under.refusal)
    refl

pub returns-in-Ok-under-clause-wakes : goal.returns-in-Ok-under-clause-wakes
returns-in-Ok-under-clause-wakes g c =
    let s = c.args.self.now in
    left_stating s c.state_meant.new.self (name_of c.args.premise) c.args.name.now (value_of c.args.value.now)
    c.state_meant.result c.state_meant.ensures.told

pub returns-in-Ok-under-clause-step : goal.returns-in-Ok-under-clause-step
returns-in-Ok-under-clause-step g c =
    let s = c.args.self.now in
    let library = stored_of g.R.Rule.value_of s.live.network.library in
    let kind : kind_at s.live.network.cells.kinds c.in-Some.cell ≡ c.kind-kind.result =
    sym (rw (c.data.ensures, c.network.ensures) at c.kind-kind.ensures) in
    let said : meaning_at s.words (kind_at s.live.network.cells.kinds c.in-Some.cell).kind (value_of c.args.value.now)
    ≡ Ok (meant_of c.in-Ok.meant) = rw (← kind) at c.in-Ok.ensures.ok in
    told_or_not library (state_of s) (state_of c.state_meant.new.self) (name_of c.args.premise) _ c.args.name.now
    (value_of c.args.value.now) c.in-Some.cell (meant_of c.in-Ok.meant) (sym c.in-Some.ensures.number) said
    c.in-Ok-under.ensures.free c.in-Ok-under.ensures.name c.state_meant.result c.state_meant.ensures.fits
    c.state_meant.ensures.ok c.state_meant.ensures.err c.state_meant.ensures.err_same

pub returns-in-None-clause-step : goal.returns-in-None-clause-step
returns-in-None-clause-step g c =
    let s = c.args.self.now in
    let library = stored_of g.R.Rule.value_of s.live.network.library in
    refuses library (state_of s) (state_of s)
    (stating (name_of c.args.premise) c.args.name.now (value_of c.args.value.now)) NoSuchCell
    (told_nowhere library (state_of s) (name_of c.args.premise) c.args.name.now (value_of c.args.value.now)
    (sym c.in-None.ensures.number)) refl
