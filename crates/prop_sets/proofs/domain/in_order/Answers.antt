use Rattle.std.proofs.Common.{◌∙◌}
use Rattle.prop_sets.specs.Names.{names_of}
use Rattle.prop_sets.proofs.NameLemmas.{absent_from_kept, kept_more}
use Rattle.prop_sets.proofs.domain.in_order.Goals as goal

pub push_name-requires : goal.push_name-requires
push_name-requires c =
    absent_from_kept c.args.names.now (names_of c.loop-name.kept.keys) c.loop-name.name-index _ c.loop-name-test.true
    c.loop-name.invariant c.requires

pub loop-name-preserved : goal.loop-name-preserved
loop-name-preserved c =
    c.in_ok-push_name.ensures ∙ kept_more c.args.names.now (names_of c.loop-name.kept.keys) c.loop-name.name-index _
    c.loop-name-test.true c.loop-name.invariant
