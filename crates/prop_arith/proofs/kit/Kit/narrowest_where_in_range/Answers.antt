use Rattle.prop_arith.specs.laws.NarrowestLaws.{add_is_narrowest, sub_is_narrowest, mul_is_narrowest}
use Rattle.prop_arith.specs.laws.NarrowestLaws.{square_is_narrowest, root_is_narrowest, image_is_narrowest}
use Rattle.prop_arith.specs.laws.NarrowestLaws.{coimage_is_narrowest}
use Rattle.prop_arith.proofs.kit.Kit.narrowest_where_in_range.Goals as goal

pub returns-clause-add : goal.returns-clause-add
returns-clause-add c = add_is_narrowest

pub returns-clause-sub : goal.returns-clause-sub
returns-clause-sub c = sub_is_narrowest

pub returns-clause-mul : goal.returns-clause-mul
returns-clause-mul c = mul_is_narrowest

pub returns-clause-square : goal.returns-clause-square
returns-clause-square c = square_is_narrowest

pub returns-clause-root : goal.returns-clause-root
returns-clause-root c = root_is_narrowest

pub returns-clause-image : goal.returns-clause-image
returns-clause-image c = image_is_narrowest

pub returns-clause-coimage : goal.returns-clause-coimage
returns-clause-coimage c = coimage_is_narrowest
