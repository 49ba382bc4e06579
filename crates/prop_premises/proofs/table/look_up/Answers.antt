use Rattle.std.proofs.Common.{sym, ◌∙◌, ap}
use Rattle.std.specs.Map.{lookup}
use Rattle.prop_premises.specs.inner.Named.{number_of, is_choices}
use Rattle.prop_premises.proofs.LookupLemmas.{names_it, premise_number-lookup, is_choice-lookup, number_of-none}
use Rattle.prop_premises.proofs.LookupLemmas.{is_choices-none}
use Rattle.prop_premises.proofs.table.look_up.Goals as goal

pub returns-clause-number : goal.returns-clause-number
returns-clause-number c =
    let e = c.in_ok-place.ensures in
    ap number_of (sym c.index.ensures ∙ e.value)
    ∙ sym (premise_number-lookup c.args.name.now c.args.names.now.entries c.requires e.unique)

pub returns-clause-choice : goal.returns-clause-choice
returns-clause-choice c =
    let e = c.in_ok-place.ensures in
    ap is_choices (sym c.index.ensures ∙ e.value)
    ∙ sym (is_choice-lookup c.args.name.now c.args.names.now.entries c.requires e.unique)

pub returns-in_err-place-clause-number : goal.returns-in_err-place-clause-number
returns-in_err-place-clause-number c =
    let e = c.in_err-place.ensures in
    rw c.from_residual.ensures (number_of-none (lookup (names_it c.args.name.now) c.args.names.now.entries) e.found
    ∙ sym (premise_number-lookup c.args.name.now c.args.names.now.entries c.requires e.unique))

pub returns-in_err-place-clause-choice : goal.returns-in_err-place-clause-choice
returns-in_err-place-clause-choice c =
    let e = c.in_err-place.ensures in
    rw c.from_residual.ensures (is_choices-none (lookup (names_it c.args.name.now) c.args.names.now.entries) e.found
    ∙ sym (is_choice-lookup c.args.name.now c.args.names.now.entries c.requires e.unique))
