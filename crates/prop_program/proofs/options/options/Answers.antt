use Rattle.prop_program.proofs.options.options.Goals as goal

pub returns-clause-err : goal.returns-clause-err
returns-clause-err c = c.read-options.ensures.err c.args.said.name.now c.in_ok-command.ensures
