use Rattle.prop_amb.proofs.KeepingLaws.{search_extends}
use Rattle.prop_amb.proofs.laws.additions_keep_searches.Goals as goal

pub returns : goal.returns
returns c = search_extends
