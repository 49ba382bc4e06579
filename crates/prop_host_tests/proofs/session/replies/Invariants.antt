use Rattle.std.proofs.Common.{◌≡◌, All, map, take}
use Rattle.prop_procedures.specs.declared.both.Both.TheVariants.{One}
use Rattle.prop_procedures.specs.Both.{either_of}
use Rattle.prop_procedures.specs.Kept.{AllMean}
use Rattle.prop_arith.specs.Values.{value_of}
use Rattle.prop_host_tests.specs.Host.{value_of as host_value}
use Rattle.prop_host_tests.proofs.Listed.{IsOfItsRule}
use Rattle.prop_host_tests.proofs.session.replies.Given as goal

abbrev pub invariant-loop-rule : goal.invariant-loop-rule
invariant-loop-rule l = record {
  means : AllMean (either_of value_of host_value) l.procedures.items;
  of_rules : All IsOfItsRule l.procedures.items;
  ruled : map (λ p. p.rule) l.procedures.items ≡ map One (take l.rule-index l.rule-items);
}
