use Rattle.prop_sets.specs.laws.TruthLaws.{and_sound, and_back_sound, or_sound, or_back_sound, not_sound}
use Rattle.prop_sets.proofs.truth.truths_are_sound.Goals as goal

pub returns-clause-and : goal.returns-clause-and
returns-clause-and c = and_sound

pub returns-clause-and_back : goal.returns-clause-and_back
returns-clause-and_back c = and_back_sound

pub returns-clause-or : goal.returns-clause-or
returns-clause-or c = or_sound

pub returns-clause-or_back : goal.returns-clause-or_back
returns-clause-or_back c = or_back_sound

pub returns-clause-not : goal.returns-clause-not
returns-clause-not c = not_sound
