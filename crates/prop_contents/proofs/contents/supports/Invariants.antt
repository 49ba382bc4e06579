use Rattle.std.proofs.Common.{take}
use Rattle.prop_numbers.specs.Sets.{set_of}
use Rattle.prop_contents.specs.Contents.{IsSupport}
use Rattle.prop_contents.proofs.contents.supports.Given as goal

abbrev pub invariant-loop-c : goal.invariant-loop-c
invariant-loop-c l = IsSupport (set_of l.worldview) l.contents (take l.c-index l.cells) l.support
