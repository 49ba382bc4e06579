-- The procedures that the program propbench comes with.
use Rattle.std.specs.Prelude.{List}
use Rattle.prop_procedures.specs.Stored.{Stored}
use Rattle.prop_procedures.specs.Forms.{library_of}
use Rattle.prop_arith.specs.Kit.{in_order, form_of}
use Rattle.prop_arith.specs.Values.{value_of}

-- the procedures of the kit, in order
abbrev pub kit : List Stored
kit = library_of form_of value_of in_order
