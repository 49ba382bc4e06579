use Rattle.prop_sets.specs.Truth.{leaves}
use Rattle.prop_sets.specs.laws.TruthLaws.{or_back_just}
use Rattle.prop_sets.proofs.TruthLemmas.{or_back-bits}
use Rattle.prop_sets.proofs.truth.or_back.Goals as goal

pub returns-clause-value : goal.returns-clause-value
returns-clause-value c =
    let first = c.truths_left-c.ensures in
    let second = c.truths_left-b.ensures in
    rw (
      or_back-bits (leaves c.args.z) (leaves c.args.y),
      ← first.yes,
      ← first.no,
      ← second.yes,
      ← second.no,
      ← c.is_unknown.ensures,
      ← c.is_unknown-2.ensures,
    ) c.told.ensures

pub returns-clause-left : goal.returns-clause-left
returns-clause-left c = rw (returns-clause-value c) (or_back_just c.args.z c.args.y)
