use Rattle.std.proofs.Common.{◌∙◌, sym}
use Rattle.std.specs.Prelude.{IsTrue}
use Rattle.std.specs.List.{list_any}
use Rattle.std.proofs.lemmas.List.Elements.{All-contains}
use Rattle.prop_numbers.specs.Sets.{set_of}
use Rattle.prop_hitting.specs.declared.conflict.Conflict.{Conflict}
use Rattle.prop_hitting.proofs.NodeLemmas.{has_one, left_split, left_without}
use Rattle.prop_hitting.proofs.frontier.Frontier.step.Goals as goal

pub returns-then-has_all_of_one-clause-sought : goal.returns-then-has_all_of_one-clause-sought
returns-then-has_all_of_one-clause-sought c =
    left_without c.args.conflicts.now c.args.repairs.now c.args.self.now.nodes.items c.pop.new.self.items
    c.in-Some.node c.in-Some.ensures.items c.requires.sought
    (has_one (set_of c.in-Some.node.hit) c.args.repairs.now
    (sym c.has_all_of_one.ensures ∙ c.if-has_all_of_one.true))

pub returns-in_ok-split-in-Some-missed-clause-sought :
    goal.returns-in_ok-split-in-Some-missed-clause-sought
returns-in_ok-split-in-Some-missed-clause-sought c =
    let split = c.in_ok-split-in-Some-missed.ensures in
    left_split c.args.conflicts.now c.args.repairs.now c.args.self.now.nodes.items c.pop.new.self.items
    c.in-Some.node c.in-Some.ensures.items c.requires.sought c.split.new.self.nodes.items split.kept
    (λ h hits there. split.split h (All-contains (λ (x : Conflict). IsTrue (list_any h x.premises))
    c.args.conflicts.now c.in-Some-missed.conflict.now hits c.in-Some-missed.ensures.listed) there)
