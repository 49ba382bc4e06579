use Rattle.prop_engine.proofs.Prefixes.{ended_first}
use Rattle.prop_engine.proofs.laws.ended_lines_come_first.Goals as goal

pub returns : goal.returns
returns c = ended_first
