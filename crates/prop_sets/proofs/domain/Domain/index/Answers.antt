use Rattle.std.proofs.Common.{sym, ◌∙◌}
use Rattle.prop_sets.proofs.NameLemmas.{position-names, name_at}
use Rattle.prop_sets.proofs.domain.Domain.index.Goals as goal

pub returns-in_err-i-clause-value : goal.returns-in_err-i-clause-value
returns-in_err-i-clause-value c =
    rw (← c.self.view_is) (c.from_residual.ensures
    ∙ sym (position-names c.args.name.now c.self.inside.names.keys ∙ sym c.in_err-i.ensures.index))

pub returns-clause-value : goal.returns-clause-value
returns-clause-value c =
    rw (← c.self.view_is) (sym (position-names c.args.name.now c.self.inside.names.keys ∙ sym c.in_ok-i.ensures.index))

pub returns-clause-element : goal.returns-clause-element
returns-clause-element c = name_at c.args.self.now _ c.args.name.now (sym (returns-clause-value c))
