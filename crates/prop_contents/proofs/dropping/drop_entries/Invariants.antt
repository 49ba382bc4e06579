use Rattle.std.proofs.Common.{◌≡◌}
use Rattle.prop_contents.proofs.DroppingLaws.{first_gone}
use Rattle.prop_contents.proofs.dropping.drop_entries.Given as goal

abbrev pub invariant-loop-content : goal.invariant-loop-content
invariant-loop-content l = l.content-items ≡ first_gone l.premise l.content-index l.fn.contents
