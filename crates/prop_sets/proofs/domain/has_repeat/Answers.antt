use Rattle.std.proofs.Common.{◌∙◌, sym}
use Rattle.prop_sets.proofs.NameLemmas.{repeats_at, no_repeat_yet}
use Rattle.prop_sets.proofs.domain.has_repeat.Goals as goal

pub returns-then-is_among : goal.returns-then-is_among
returns-then-is_among c =
    sym (repeats_at c.args.names.now c.loop-i.i _ c.loop-i-test.true (sym c.is_among.ensures ∙ c.if-is_among.true))

pub loop-i-preserved : goal.loop-i-preserved
loop-i-preserved c =
    no_repeat_yet c.args.names.now c.loop-i.i _ c.loop-i-test.true c.loop-i.invariant
    (sym c.is_among.ensures ∙ c.if-is_among.false)
