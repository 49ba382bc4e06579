use Rattle.std.proofs.Common.{◌∙◌, ◌++◌, ap, arith, map}
use Rattle.std.proofs.lemmas.List.{take_all}
use Rattle.prop_hall.specs.Excluder.{in_order as excluders}
use Rattle.propwide.specs.Kits.{of_excluder, shown}
use Rattle.propwide.proofs.Making.{excluder_shown, more}
use Rattle.propwide.proofs.entries.add_excluders.Goals as goal

pub loop-rule-preserved : goal.loop-rule-preserved
loop-rule-preserved c = record {
  listed = more shown of_excluder _ _ _ _ _ _ (map shown c.args.made.now.items) c.in_ok-push.ensures.items
      c.loop-rule-test.true (excluder_shown _ c.name.ensures c.ins.ensures c.out.ensures c.need.ensures)
      c.loop-rule.invariant.listed;
}

pub returns : goal.returns
returns c =
    let past = c.loop-rule-test.false in c.loop-rule.invariant.listed
    ∙ ap (λ rules. map shown c.args.made.now.items ++ map of_excluder rules)
    (take_all c.loop-rule.rule-index excluders (omega (arith, past)))
