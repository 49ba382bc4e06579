use Rattle.prop_sets.specs.laws.ImageLaws.{image_narrowest, coimage_narrowest}
use Rattle.prop_sets.proofs.rows.Rows.images_are_narrowest.Goals as goal

pub returns-clause-image : goal.returns-clause-image
returns-clause-image c = image_narrowest

pub returns-clause-coimage : goal.returns-clause-coimage
returns-clause-coimage c = coimage_narrowest
