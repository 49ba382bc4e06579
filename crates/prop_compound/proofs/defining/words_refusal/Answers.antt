use Rattle.std.proofs.Common.{sym}
use Rattle.prop_refusals.specs.declared.refusal.Refusal.TheVariants.{NoSuchDomain, NoSuchRelation, NoSuchCell}
use Rattle.prop_compound.specs.Defining.{is_domain_missing, is_relation_missing}
use Rattle.prop_compound.proofs.Judging.{some_said, first_of_three, second_of_three, third_of_three, none_of_three}
use Rattle.prop_compound.proofs.defining.words_refusal.Goals as goal

pub returns-then-has_domain_missing : goal.returns-then-has_domain_missing
returns-then-has_domain_missing c =
    first_of_three NoSuchDomain NoSuchRelation NoSuchCell _ _ _
    (some_said (is_domain_missing c.args.words.now) c.args.steps.now _ c.if-has_domain_missing.ensures)

pub returns-then-has_relation_missing : goal.returns-then-has_relation_missing
returns-then-has_relation_missing c =
    second_of_three NoSuchDomain NoSuchRelation NoSuchCell _ _ _
    (some_said (is_domain_missing c.args.words.now) c.args.steps.now _ c.if-has_domain_missing.ensures)
    (some_said (is_relation_missing c.args.words.now) c.args.steps.now _ c.if-has_relation_missing.ensures)

pub returns-then-is_cell_missing : goal.returns-then-is_cell_missing
returns-then-is_cell_missing c =
    third_of_three NoSuchDomain NoSuchRelation NoSuchCell _ _ _
    (some_said (is_domain_missing c.args.words.now) c.args.steps.now _ c.if-has_domain_missing.ensures)
    (some_said (is_relation_missing c.args.words.now) c.args.steps.now _ c.if-has_relation_missing.ensures)
    (sym c.if-is_cell_missing.ensures)

pub returns : goal.returns
returns c =
    none_of_three NoSuchDomain NoSuchRelation NoSuchCell _ _ _
    (some_said (is_domain_missing c.args.words.now) c.args.steps.now _ c.if-has_domain_missing.ensures)
    (some_said (is_relation_missing c.args.words.now) c.args.steps.now _ c.if-has_relation_missing.ensures)
    (sym c.if-is_cell_missing.ensures)
