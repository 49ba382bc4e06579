use Rattle.prop_many.specs.laws.FreeLaws.{ends_are_free}
use Rattle.prop_many.proofs.differ.ends_are_free.Goals as goal

pub returns : goal.returns
returns c = ends_are_free
