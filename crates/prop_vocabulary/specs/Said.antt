-- Meanings without where their names lie in memory.
use Rattle.prop_vocabulary.specs.Values as values
use Rattle.prop_vocabulary.specs.declared.values.Meant.{Meant}
use Rattle.prop_vocabulary.specs.declared.values.Meant.TheVariants.{Known, Name}

abbrev pub meant_of : Meant → values.Meant
meant_of (Known info) = values.Known info
meant_of (Name name) = values.Name name.now
