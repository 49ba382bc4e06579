use Rattle.prop_sets.specs.laws.ImageLaws.{image_monotone, coimage_monotone}
use Rattle.prop_sets.proofs.rows.Rows.images_are_monotone.Goals as goal

pub returns-clause-image : goal.returns-clause-image
returns-clause-image c = image_monotone

pub returns-clause-coimage : goal.returns-clause-coimage
returns-clause-coimage c = coimage_monotone
