use Rattle.std.proofs.Common.{sym, ap, ◌∙◌, string_bytes}
use Rattle.std.specs.Option.{option_map}
use Rattle.std.proofs.lemmas.Option.{slice_get-map}
use Rattle.prop_sets.proofs.NameLemmas.{position_at}
use Rattle.prop_sets.proofs.domain.Domain.element.Goals as goal

pub returns-clause-name : goal.returns-clause-name
returns-clause-name c =
    let keys = c.self.inside.names.keys in
    let at = rw c.from-2.ensures at c.in-Some.ensures.key in
    rw (← c.self.view_is, c.as_str.ensures.value)
    (slice_get-map string_bytes keys c.args.i ∙ ap (option_map string_bytes) (sym at))

pub returns-clause-index : goal.returns-clause-index
returns-clause-index c =
    let at = rw (← c.self.view_is) at (returns-clause-name c) in
    rw (← c.self.view_is) (position_at _ c.args.i _ c.self.invariant.apart at)
