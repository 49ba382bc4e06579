use Rattle.std.proofs.Common.{length, refl}
use Rattle.prop_procedures.specs.Kept.{stored_of}
use Rattle.prop_compound.specs.Expanding.{is_kind_wrong}
use Rattle.prop_compound.specs.Flattened.{placed_of, IsInstanceOver}
use Rattle.prop_compound.proofs.Firsts.{all_here, found_here, not_yet, none_found}
use Rattle.prop_compound.proofs.fitting.has_kind_wrong.Goals as goal

pub loop-instance-init : goal.loop-instance-init
loop-instance-init g c = refl

pub is_kind_wrong-requires : goal.is_kind_wrong-requires
is_kind_wrong-requires g c =
    all_here c.args.instances.now c.loop-instance.instance-index c.instance-item.result c.loop-instance-test.true
    c.instance-item.is (IsInstanceOver (stored_of g.R.Rule.value_of c.args.library.now) (length c.args.kinds.now))
    c.requires

pub returns-then-is_kind_wrong : goal.returns-then-is_kind_wrong
returns-then-is_kind_wrong g c =
    found_here c.args.instances.now c.loop-instance.instance-index c.instance-item.result c.loop-instance-test.true
    c.instance-item.is (λ x. is_kind_wrong (stored_of g.R.Rule.value_of c.args.library.now) c.args.kinds.now
    (placed_of c.args.params.now x)) c.is_kind_wrong.result c.is_kind_wrong.ensures c.if-is_kind_wrong.true

pub loop-instance-preserved : goal.loop-instance-preserved
loop-instance-preserved g c =
    not_yet c.args.instances.now c.loop-instance.instance-index c.instance-item.result c.loop-instance-test.true
    c.instance-item.is (λ x. is_kind_wrong (stored_of g.R.Rule.value_of c.args.library.now) c.args.kinds.now
    (placed_of c.args.params.now x)) c.is_kind_wrong.result c.is_kind_wrong.ensures c.if-is_kind_wrong.false
    c.loop-instance.invariant

pub returns : goal.returns
returns g c =
    none_found (λ x. is_kind_wrong (stored_of g.R.Rule.value_of c.args.library.now) c.args.kinds.now
    (placed_of c.args.params.now x)) c.args.instances.now c.loop-instance.instance-index c.loop-instance-test.false
    c.loop-instance.invariant
