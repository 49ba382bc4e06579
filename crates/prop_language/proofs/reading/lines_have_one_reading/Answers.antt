use Rattle.prop_language.proofs.ReadingLaws.{have_one_reading}
use Rattle.prop_language.proofs.reading.lines_have_one_reading.Goals as goal

pub returns : goal.returns
returns c = have_one_reading
