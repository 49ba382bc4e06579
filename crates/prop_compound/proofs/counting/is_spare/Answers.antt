use Rattle.prop_compound.proofs.Sparing.{step_spare}
use Rattle.prop_compound.proofs.counting.is_spare.Goals as goal

pub returns-in-Definition : goal.returns-in-Definition
returns-in-Definition c =
    step_spare c.args.definitions.now c.args.step.now c.in-Use.used _ c.in-Use.passing c.in-Definition.earlier
    c.index-definitions-earlier.result c.args.given c.passes_something.result c.is_spare.result c.requires.kept
    c.requires.used c.in-Use.is c.in-Definition.is c.index-definitions-earlier.is c.passes_something.ensures
    c.is_spare.ensures
