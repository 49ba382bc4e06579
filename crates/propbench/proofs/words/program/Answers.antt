use Rattle.std.proofs.Common.{◌∙◌}
use Rattle.prop_arith.specs.Kit.{form_of, in_order, FormOf}
use Rattle.prop_arith.specs.Points.{Related}
use Rattle.prop_arith.specs.Values.{value_of}
use Rattle.prop_arith.specs.laws.KitLaws.{kit_formed, kit_sound}
use Rattle.prop_cells.specs.Points.{AreSoundBy}
use Rattle.prop_procedures.specs.Forms.{related_in}
use Rattle.prop_program.proofs.Declining.{declines_does, served_does}
use Rattle.prop_program.proofs.Listing.{library_is_sound}
use Rattle.propbench.specs.Kits.{kit}
use Rattle.propbench.proofs.words.program.Goals as goal

-- each rule's answers hold the points that it relates
kit_is_sound : AreSoundBy kit (related_in Related in_order)
kit_is_sound = library_is_sound form_of value_of Related FormOf kit_formed kit_sound in_order

pub returns-in-Err-clause-points : goal.returns-in-Err-clause-points
returns-in-Err-clause-points g c = kit_is_sound

pub returns-clause-points : goal.returns-clause-points
returns-clause-points g c = kit_is_sound

pub returns-in-Err-clause-answered : goal.returns-in-Err-clause-answered
returns-in-Err-clause-answered g c =
    declines_does _ _ g.D.Devices.calls _ _ _ c.in-Err.status _ c.from.ensures c.in-Err.ensures.err

pub returns-in-Err-clause-earned : goal.returns-in-Err-clause-earned
returns-in-Err-clause-earned g c =
    declines_does _ _ g.D.Devices.calls _ _ _ c.in-Err.status _ c.from.ensures c.in-Err.ensures.err

pub returns-clause-answered : goal.returns-clause-answered
returns-clause-answered g c =
    served_does _ _ g.D.Devices.calls _ _ _ c.in-Ok.options c.run-end.result _ c.in-Ok.ensures.ok
    (rw c.in-Ok.ensures.untouched at c.run-end.ensures.answered) (c.from-2.ensures ∙ c.ended.ensures.status)

pub returns-clause-earned : goal.returns-clause-earned
returns-clause-earned g c =
    served_does _ _ g.D.Devices.calls _ _ _ c.in-Ok.options c.run-end.result _ c.in-Ok.ensures.ok
    (rw c.in-Ok.ensures.untouched at c.run-end.ensures.earned) (c.from-2.ensures ∙ c.ended.ensures.status)
