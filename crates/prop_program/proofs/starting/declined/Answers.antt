use Rattle.std.proofs.Common.{◌≡◌, ◌∙◌, false, true, subst}
use Rattle.std.proofs.lemmas.Bool.{false≢true}
use denote.Enum.Bare.{sameb}
use Rattle.clap.specs.contracts.error.kind.ErrorKind.{the_type}
use Rattle.clap.specs.declared.error.kind.ErrorKind.TheVariants.{OutOfMemory}
use Rattle.prop_program.proofs.Declining.{declines_words, declines_told, declines_untold, for_text, is_no_text}
use Rattle.prop_program.proofs.Declining.{not_used}
use Rattle.prop_program.proofs.starting.declined.Goals as goal

pub returns-then-use_stderr-clause-declines : goal.returns-then-use_stderr-clause-declines
returns-then-use_stderr-clause-declines g c = λ given reason.
    declines_words g.D.Devices.calls _ given _ reason _
    (λ m. let t : false ≡ true =
    subst (λ k. false ≡ sameb the_type k OutOfMemory) (c.kind.ensures ∙ m) c.if-eq.ensures in false≢true t)
    (is_no_text _ (c.use_stderr.ensures.0 c.if-use_stderr.true))

pub returns-in-Ok-send-clause-declines : goal.returns-in-Ok-send-clause-declines
returns-in-Ok-send-clause-declines g c = λ given reason.
    let s = c.in-Ok-send.ensures.calls in
    declines_told g.D.Devices.calls _ given _ reason _ _ _
    (for_text _ (λ h. not_used _ c.if-use_stderr.false (c.use_stderr.ensures.1 h))) s.0 s.1 s.2

pub returns-clause-declines : goal.returns-clause-declines
returns-clause-declines g c = λ given reason.
    let s = c.in-Err.ensures.calls in
    declines_untold g.D.Devices.calls _ given _ reason _ _ _ _
    (for_text _ (λ h. not_used _ c.if-use_stderr.false (c.use_stderr.ensures.1 h))) s.0 s.1 s.2
    c.complained-in-Err.ensures
