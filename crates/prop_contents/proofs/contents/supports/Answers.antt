use Rattle.std.proofs.Common.{arith}
use Rattle.prop_numbers.specs.Sets.{set_of}
use Rattle.prop_contents.proofs.Supporting.{support_more}
use Rattle.prop_contents.proofs.contents.supports.Goals as goal

pub loop-c-preserved : goal.loop-c-preserved
loop-c-preserved c =
    let united = c.in_ok-unite_support.ensures in
    support_more (set_of c.args.worldview.now) c.args.contents.now c.args.cells.now c.loop-c.c-index c.loop-c.support
    united.0 c.unite_support.new.support (omega arith)
    c.loop-c.invariant united.1 united.2
