-- What is known of the answers of the rules of many numbers without a call.
use Rattle.std.specs.Prelude.{ℕ, suc, ℤ, List, ◌∷◌, Option, Some, None, slice_get}
use Rattle.std.specs.Option.{option_and_then}
use Rattle.prop_guards.specs.Known.{number_of}
use Rattle.prop_lattice.specs.declared.info.Info.{Info}
use Rattle.prop_many.specs.declared.many.Many.{Many}
use Rattle.prop_many.specs.declared.many.Many.TheVariants.{Circuit, Cumulative, Differ, Disjoint}
use Rattle.prop_many.specs.declared.many.Many.TheVariants.{Ending, Starting}

-- the place of the input that is the output: the task's own start, the own number or the node's own
-- successor
abbrev pub own_of : Many → Option ℕ
own_of Cumulative = Some 1
own_of Disjoint = Some 0
own_of Differ = Some 0
own_of Circuit = Some 0
own_of Ending = None
own_of Starting = Some 0

-- the only number that the other at this place leaves: the own number can't be that
abbrev pub ruled_out_beside : List Info → ℕ → Option ℤ
ruled_out_beside (own ∷ others) (suc place) = option_and_then number_of (slice_get others place)
ruled_out_beside args place = None

-- the number that the own can't be, as the input at this place tells
abbrev pub ruled_out : Many → List Info → ℕ → Option ℤ
ruled_out Differ args place = ruled_out_beside args place
ruled_out rule args place = None
