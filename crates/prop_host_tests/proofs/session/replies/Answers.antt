use Rattle.std.proofs.Common.{◌∙◌, arith}
use Rattle.std.proofs.lemmas.List.Elements.{All-push}
use Rattle.prop_procedures.specs.Both.{either_of}
use Rattle.prop_procedures.specs.inner.Kept.{AllMean-push}
use Rattle.prop_arith.specs.Values.{value_of}
use Rattle.prop_host_tests.specs.Host.{value_of as host_value}
use Rattle.prop_host_tests.proofs.Listed.{IsOfItsRule, is_of_kit, is_of_host, ruled_more, all_ruled, listed}
use Rattle.prop_host_tests.proofs.session.replies.Goals as goal

pub loop-rule-preserved : goal.loop-rule-preserved
loop-rule-preserved c =
    let p = c.new-in-loop-rule.ensures in
    let of_kit = is_of_kit c.new-in-loop-rule.result _ (p.name ∙ c.name.ensures)
    (p.ins ∙ c.in_ok-ins.ensures.ok ∙ c.ins.ensures) (p.out ∙ c.out.ensures) (p.need ∙ c.need.ensures) p.rule
    in record {
      means = AllMean-push (either_of value_of host_value) _ _ _ c.in_ok-push.ensures.items c.loop-rule.invariant.means
          p.means;
      of_rules = rw c.in_ok-push.ensures.items (All-push IsOfItsRule _ _ c.loop-rule.invariant.of_rules of_kit);
      ruled = ruled_more _ _ _ _ _ _ c.in_ok-push.ensures.items c.loop-rule-test.true p.rule
          c.loop-rule.invariant.ruled;
    }

pub serve-requires-clause-means : goal.serve-requires-clause-means
serve-requires-clause-means c = AllMean-push (either_of value_of host_value) _ _ _ c.in_ok-push-2.ensures.items
    c.loop-rule.invariant.means c.new-maxer.ensures.means

pub serve-requires-clause-listed : goal.serve-requires-clause-listed
serve-requires-clause-listed c =
    let p = c.new-maxer.ensures in
    let of_host = is_of_host c.new-maxer.result p.name (p.ins ∙ c.in_ok-ins-2.ensures.ok) p.out p.need p.rule in
    let ruled = all_ruled _ _ _ c.loop-rule.rule-index c.in_ok-push-2.ensures.items
    (let past = c.loop-rule-test.false in omega (arith, past)) p.rule c.loop-rule.invariant.ruled in
    listed _ (rw c.in_ok-push-2.ensures.items (All-push IsOfItsRule _ _ c.loop-rule.invariant.of_rules of_host)) ruled
