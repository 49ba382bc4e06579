use Rattle.prop_sets.specs.Truth.{leaves}
use Rattle.prop_sets.specs.laws.TruthLaws.{and_just}
use Rattle.prop_sets.proofs.TruthLemmas.{and-bits}
use Rattle.prop_sets.proofs.truth.and3.Goals as goal

pub returns-clause-value : goal.returns-clause-value
returns-clause-value c =
    let first = c.truths_left-a.ensures in
    let second = c.truths_left-b.ensures in
    rw (
      and-bits (leaves c.args.x) (leaves c.args.y),
      ← first.yes,
      ← first.no,
      ← second.yes,
      ← second.no,
      ← c.is_unknown.ensures,
      ← c.is_unknown-2.ensures,
    ) c.told.ensures

pub returns-clause-left : goal.returns-clause-left
returns-clause-left c = rw (returns-clause-value c) (and_just c.args.x c.args.y)
