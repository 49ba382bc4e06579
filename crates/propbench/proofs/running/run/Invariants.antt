use Rattle.std.proofs.Common.{◌≡◌, take, map}
use Rattle.prop_procedures.specs.Forms.{stored_rule}
use Rattle.prop_procedures.specs.Kept.{AllMean, stored_as}
use Rattle.prop_arith.specs.Kit.{form_of}
use Rattle.prop_arith.specs.Values.{value_of}
use Rattle.propbench.proofs.running.run.Given as goal

abbrev pub invariant-loop-rule : goal.invariant-loop-rule
invariant-loop-rule g l = record {
  means : AllMean value_of l.procedures.items;
  listed : map (stored_as value_of) l.procedures.items
      ≡ map (stored_rule form_of value_of) (take l.rule-index l.rule-items);
}
