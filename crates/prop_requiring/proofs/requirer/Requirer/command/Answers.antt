use Rattle.prop_procedures.specs.Kept.{stored_of}
use Rattle.prop_engine.specs.Answers.{answer_of}
use Rattle.prop_seeking.specs.inner.Seekers.{sought_of}
use Rattle.prop_requiring.proofs.PostLemmas.{other_line, own_definition, own_line}
use Rattle.prop_requiring.proofs.requirer.Requirer.command.Goals as goal

pub returns-in-Some-clause-requires_it : goal.returns-in-Some-clause-requires_it
returns-in-Some-clause-requires_it g c =
    let old = c.args.self.now.blamer.seeker in
    let library = stored_of g.R.Rule.value_of old.teller.session.live.network.library in
    own_line g.O.Order.picks library (sought_of old) c.args.line.now c.in-Some.behind.now (answer_of c.of.result)
    (sought_of c.require.new.self.blamer.seeker) c.in-Some.ensures.0 c.in-Some.ensures.1
    (rw c.of.ensures c.require.ensures.requires_it)

pub returns-in-Some-behind_let-clause-requires_it : goal.returns-in-Some-behind_let-clause-requires_it
returns-in-Some-behind_let-clause-requires_it g c =
    let old = c.args.self.now.blamer.seeker in
    let library = stored_of g.R.Rule.value_of old.teller.session.live.network.library in
    own_definition g.O.Order.picks library (sought_of old) c.args.line.now c.in-Some-behind_let.behind.now
    (answer_of c.define.result) (sought_of c.define.new.self.blamer.seeker) c.in-None.ensures
    c.in-Some-behind_let.ensures.0 c.in-Some-behind_let.ensures.1 c.define.ensures.defines

pub returns-in-None-behind_let-clause-requires_it : goal.returns-in-None-behind_let-clause-requires_it
returns-in-None-behind_let-clause-requires_it g c =
    let old = c.args.self.now.blamer.seeker in
    let library = stored_of g.R.Rule.value_of old.teller.session.live.network.library in
    other_line g.O.Order.picks library (sought_of old) c.args.line.now (answer_of c.pass.result)
    (sought_of c.pass.new.self.blamer.seeker) c.in-None.ensures c.in-None-behind_let.ensures c.pass.ensures.blames
