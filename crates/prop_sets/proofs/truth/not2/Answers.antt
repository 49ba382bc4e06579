use Rattle.prop_sets.specs.Truth.{leaves, is_nothing}
use Rattle.prop_sets.specs.laws.TruthLaws.{not_just}
use Rattle.prop_sets.proofs.TruthLemmas.{not-bits, twice}
use Rattle.prop_sets.proofs.truth.not2.Goals as goal

pub returns-clause-value : goal.returns-clause-value
returns-clause-value c =
    let input = c.truths_left-a.ensures in
    rw (
      twice (is_nothing c.args.x),
      not-bits (leaves c.args.x),
      ← input.yes,
      ← input.no,
      ← c.is_unknown.ensures,
    ) c.told.ensures

pub returns-clause-left : goal.returns-clause-left
returns-clause-left c = rw (returns-clause-value c) (not_just c.args.x)
