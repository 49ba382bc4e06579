-- Shortcuts: what is known beforehand of a use of a definition, as shorter steps that add the same.
use Rattle.prop_compound.specs.declared.definition.Passing.{Passing}
use Rattle.prop_compound.specs.declared.definition.Passing.TheVariants as passings

-- what a step passes to what it uses, where its definition is given `given`, both as steps say it
abbrev pub passed : Passing → Passing → Passing
passed given passings.Own = given
passed given passing = passing
