use Rattle.std.proofs.Common.{map}
use Rattle.prop_procedures.specs.Kept.{stored_of}
use Rattle.prop_language.specs.Said.{words, step_of}
use Rattle.prop_compound.proofs.Judging.{is_found, taken_pushed, taken_why}
use Rattle.prop_compound.proofs.definitions.Definitions.name_all.Goals as goal

pub push_names-requires : goal.push_names-requires
push_names-requires g c = c.requires

pub returns-clause-scope : goal.returns-clause-scope
returns-clause-scope g c = c.push_names.ensures.ok

pub returns-clause-new : goal.returns-clause-new
returns-clause-new g c =
    taken_pushed (stored_of g.R.Rule.value_of c.args.library.now) c.args.self.now c.args.said.now.name.now
    (words c.args.said.now.params.now) (map step_of c.args.said.now.steps.now)
    (is_found _ _ _ c.if-is_some.ensures c.find.ensures)
    (is_found _ _ _ c.if-is_some-2.ensures c.find-else-is_some.ensures.number) c.push_names.result
    c.push_names.ensures.apart

pub returns-clause-why : goal.returns-clause-why
returns-clause-why g c =
    taken_why (stored_of g.R.Rule.value_of c.args.library.now) c.args.self.now c.args.said.now.name.now
    (words c.args.said.now.params.now) (map step_of c.args.said.now.steps.now)
    (is_found _ _ _ c.if-is_some.ensures c.find.ensures)
    (is_found _ _ _ c.if-is_some-2.ensures c.find-else-is_some.ensures.number) c.push_names.result
    c.push_names.ensures.why
