use Rattle.std.proofs.Common.{inl}
use Rattle.prop_terms.specs.Terms.{term_of}
use Rattle.prop_requiring.proofs.DefineLemmas.{not_known}
use Rattle.prop_requiring.proofs.requirer.Requirer.prepare.Goals as goal

pub returns-in-Err-known_of-clause-err : goal.returns-in-Err-known_of-clause-err
returns-in-Err-known_of-clause-err g c =
    not_known c.args.parts.before.now c.args.parts.text.now (term_of c.in-Ok.term) c.in-Ok.ensures.ok
    c.in-Err-known_of.refusal c.in-Err-known_of.ensures.refused

pub returns-in-Err-clause-err : goal.returns-in-Err-clause-err
returns-in-Err-clause-err g c = inl c.in-Err.ensures.err
