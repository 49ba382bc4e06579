use Rattle.std.proofs.Common.{◌∙◌, sym}
use Rattle.prop_scheduler.proofs.KnownLaws.{alike_same}
use Rattle.prop_scheduler.proofs.seen.Seen.is_of.Goals as goal

pub returns : goal.returns
returns c = λ yes. alike_same c.args.self.now.worldview c.args.worldview.now (sym c.is_same.ensures ∙ yes)
