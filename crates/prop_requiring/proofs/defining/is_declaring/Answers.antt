use Rattle.std.proofs.Common.{Ok, Option, subst}
use Rattle.prop_language.specs.Commands.{Command}
use Rattle.prop_language.specs.Reading.{IsReading}
use Rattle.prop_requiring.proofs.defining.is_declaring.Goals as goal

pub returns-in-Ok : goal.returns-in-Ok
returns-in-Ok c = λ t.
    let d = c.declares.ensures t in
    let P : Option Command → Type 0 = λ read. IsReading c.args.line.now (Ok read) in
    (d.0, subst P d.1 c.in-Ok.ensures.read, d.2)
