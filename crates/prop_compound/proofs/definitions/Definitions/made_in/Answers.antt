use Rattle.std.proofs.Common.{map}
use Rattle.std.proofs.lemmas.Result.{err_from_is_err_and}
use Rattle.prop_procedures.specs.Kept.{stored_of}
use Rattle.prop_language.specs.Said.{words, step_of}
use Rattle.prop_compound.proofs.Judging.{why_named, fits_named, why_rest}
use Rattle.prop_compound.proofs.Resolved.{no_value, no_pass}
use Rattle.prop_compound.proofs.definitions.Definitions.made_in.Goals as goal

pub name_all-requires : goal.name_all-requires
name_all-requires g c = c.requires

pub returns-in_err-name_all-clause-err : goal.returns-in_err-name_all-clause-err
returns-in_err-name_all-clause-err g c =
    let p = err_from_is_err_and c.from_residual.result c.from_residual.ensures.1 in
    rw (p.1, p.2) (why_named (stored_of g.R.Rule.value_of c.args.library.now) c.args.words.now c.args.self.now
    c.args.said.now.name.now (words c.args.said.now.params.now) (map step_of c.args.said.now.steps.now) _
    c.in_err-name_all.ensures.why)

pub resolved-requires : goal.resolved-requires
resolved-requires g c = c.in_ok-name_all.ensures.scope

pub returns-clause-definition : goal.returns-clause-definition
returns-clause-definition g c = c.resolved.ensures.definition

pub returns-clause-kept : goal.returns-clause-kept
returns-clause-kept g c = c.resolved.ensures.kept

pub returns-clause-over : goal.returns-clause-over
returns-clause-over g c = c.resolved.ensures.over

pub returns-clause-locals : goal.returns-clause-locals
returns-clause-locals g c = c.resolved.ensures.locals

pub returns-clause-fits : goal.returns-clause-fits
returns-clause-fits g c =
    fits_named (stored_of g.R.Rule.value_of c.args.library.now) c.args.words.now c.args.self.now
    c.args.said.now.name.now (words c.args.said.now.params.now) (map step_of c.args.said.now.steps.now)
    c.in_ok-name_all.ensures.new c.resolved.result c.resolved.ensures.fits

pub returns-clause-err : goal.returns-clause-err
returns-clause-err g c =
    why_rest (stored_of g.R.Rule.value_of c.args.library.now) c.args.words.now c.args.self.now c.args.said.now.name.now
    (words c.args.said.now.params.now) (map step_of c.args.said.now.steps.now) c.in_ok-name_all.ensures.new
    c.resolved.result c.resolved.ensures.err

pub returns-in_err-name_all-clause-definition : goal.returns-in_err-name_all-clause-definition
returns-in_err-name_all-clause-definition g c =
    let p = err_from_is_err_and c.from_residual.result c.from_residual.ensures.1 in
    no_value _ c.from_residual.result p.0 p.1

pub returns-in_err-name_all-clause-kept : goal.returns-in_err-name_all-clause-kept
returns-in_err-name_all-clause-kept g c =
    let p = err_from_is_err_and c.from_residual.result c.from_residual.ensures.1 in
    no_value _ c.from_residual.result p.0 p.1

pub returns-in_err-name_all-clause-over : goal.returns-in_err-name_all-clause-over
returns-in_err-name_all-clause-over g c =
    let p = err_from_is_err_and c.from_residual.result c.from_residual.ensures.1 in
    no_value _ c.from_residual.result p.0 p.1

pub returns-in_err-name_all-clause-locals : goal.returns-in_err-name_all-clause-locals
returns-in_err-name_all-clause-locals g c =
    let p = err_from_is_err_and c.from_residual.result c.from_residual.ensures.1 in
    no_value _ c.from_residual.result p.0 p.1

pub returns-in_err-name_all-clause-fits : goal.returns-in_err-name_all-clause-fits
returns-in_err-name_all-clause-fits g c =
    let p = err_from_is_err_and c.from_residual.result c.from_residual.ensures.1 in
    no_pass _ c.from_residual.result p.0 p.1
