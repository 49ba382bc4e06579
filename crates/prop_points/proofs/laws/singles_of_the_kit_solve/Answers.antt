use Rattle.prop_arith.specs.Kit.{form_of, in_order}
use Rattle.prop_arith.specs.Values.{value_of}
use Rattle.prop_arith.specs.laws.KitLaws.{kit_formed}
use Rattle.prop_procedures.specs.Forms.{library_of, related_in}
use Rattle.prop_points.specs.Kit.{KitTells}
use Rattle.prop_points.proofs.KitLaws.{kit_is_exact}
use Rattle.prop_points.proofs.NetworkLaws.{library_is_exact, singles_solve}
use Rattle.prop_points.proofs.laws.singles_of_the_kit_solve.Goals as goal

pub returns : goal.returns
returns c = singles_solve (library_of form_of value_of in_order) (related_in KitTells in_order)
    (library_is_exact form_of value_of KitTells
    (λ rule. kit_is_exact rule (form_of rule).ins (form_of rule).out (form_of rule).need (kit_formed rule)) in_order)
