use Rattle.prop_program.proofs.Listing.{library_is_sound}
use Rattle.prop_program.proofs.laws.rules_are_sound.Goals as goal

pub returns : goal.returns
returns g c = library_is_sound g.R.Named.form_of g.R.Rule.value_of g.R.Rule.related g.R.Rule.form g.met.R.Named.formed
    g.met.R.Rule.sound c.args.rules.now
