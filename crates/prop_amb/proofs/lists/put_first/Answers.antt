use Rattle.std.proofs.Common.{◌∙◌, sym}
use Rattle.prop_amb.proofs.ReasonLaws.{ones}
use Rattle.prop_amb.proofs.lists.put_first.Goals as goal

pub returns : goal.returns
returns c = c.fill.ensures.after (λ y e. e) ∙ sym (ones c.args.list.now)
