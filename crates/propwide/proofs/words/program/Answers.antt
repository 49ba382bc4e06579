use Rattle.std.proofs.Common.{◌∙◌}
use Rattle.prop_program.proofs.Declining.{declines_does, served_does}
use Rattle.propwide.proofs.Making.{wide_is_sound, wide_solves}
use Rattle.propwide.proofs.words.program.Goals as goal

pub returns-in-Err-clause-points : goal.returns-in-Err-clause-points
returns-in-Err-clause-points g c = wide_is_sound

pub returns-in-Err-clause-solved : goal.returns-in-Err-clause-solved
returns-in-Err-clause-solved g c = wide_solves

pub returns-clause-points : goal.returns-clause-points
returns-clause-points g c = wide_is_sound

pub returns-clause-solved : goal.returns-clause-solved
returns-clause-solved g c = wide_solves

pub returns-in-Err-clause-told : goal.returns-in-Err-clause-told
returns-in-Err-clause-told g c =
    declines_does _ _ g.D.Devices.calls _ _ _ c.in-Err.status _ c.from.ensures c.in-Err.ensures.err

pub returns-clause-told : goal.returns-clause-told
returns-clause-told g c =
    served_does _ _ g.D.Devices.calls _ _ _ c.in-Ok.options c.run-end.result _ c.in-Ok.ensures.ok
    (rw c.in-Ok.ensures.untouched at c.run-end.ensures) (c.from-2.ensures ∙ c.ended.ensures.status)
