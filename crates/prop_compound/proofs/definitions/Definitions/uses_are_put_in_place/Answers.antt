use Rattle.std.proofs.Common.{subst, ap}
use Rattle.prop_compound.specs.Definitions.{Definitions}
use Rattle.prop_compound.specs.InPlace.{UsesArePutInPlace}
use Rattle.prop_compound.proofs.InPlace.{uses_in_place}
use Rattle.prop_compound.proofs.definitions.Definitions.uses_are_put_in_place.Goals as goal

pub returns : goal.returns
returns c =
    subst UsesArePutInPlace (ap (λ (d : Definitions). d.definitions) c.self.view_is)
    (uses_in_place c.self.inside.definitions.items c.self.invariant.1)
